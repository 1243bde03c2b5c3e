pub mod PassingLaws
pub mod Promises
pub mod OneAnswer
