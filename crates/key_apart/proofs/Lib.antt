pub mod FirstLaws
pub mod OneAnswer
pub mod Promises
