pub mod ApartLaws
pub mod OneAnswer
pub mod Promises
