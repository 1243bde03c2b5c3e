pub mod StepLaws
pub mod OneAnswer
