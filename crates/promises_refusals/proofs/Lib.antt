pub mod HeaderLaws
pub mod Promises
