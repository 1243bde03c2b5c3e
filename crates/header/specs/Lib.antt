pub mod Headers
pub mod Promises
