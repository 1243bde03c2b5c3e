pub mod NumberLaws
pub mod JudgeLaws
pub mod StepLaws
pub mod StandLaws
pub mod ClosedLaws
pub mod Promises
pub mod OneAnswer
