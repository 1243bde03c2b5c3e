pub mod SameLaws
pub mod OneAnswer
