pub mod BlockLaws
pub mod OneAnswer
pub mod Promises
