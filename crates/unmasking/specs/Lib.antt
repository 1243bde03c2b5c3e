pub mod Unmasking
pub mod Promises
