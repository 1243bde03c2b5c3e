pub mod PayloadLaws
pub mod BlockLaws
pub mod TurnLaws
pub mod LengthLaws
pub mod SizeLaws
pub mod PlanLaws
pub mod OneAnswer
pub mod Examples
