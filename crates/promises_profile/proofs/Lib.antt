pub mod PlainLaws
pub mod Promises
