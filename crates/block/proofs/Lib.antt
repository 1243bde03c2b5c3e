pub mod BlockLaws
pub mod OneAnswer
