pub mod TallyLaws
pub mod Promises
pub mod OneAnswer
