pub mod Clips
pub mod Promises
