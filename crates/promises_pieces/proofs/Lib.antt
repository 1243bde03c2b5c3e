pub mod ProfileLaws
pub mod Promises
