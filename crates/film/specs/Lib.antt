pub mod Films
pub mod Promises
