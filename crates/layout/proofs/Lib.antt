pub mod LayoutLaws
pub mod OneAnswer
