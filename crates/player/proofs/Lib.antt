pub mod LayLaws
pub mod OneAnswer
