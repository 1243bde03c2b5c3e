pub mod BitLaws
pub mod OneAnswer
pub mod Promises
