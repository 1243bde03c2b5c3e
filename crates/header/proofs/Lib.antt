pub mod OneAnswer
pub mod Examples
pub mod Promises
