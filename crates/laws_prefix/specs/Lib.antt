pub mod Needs
pub mod Promises
