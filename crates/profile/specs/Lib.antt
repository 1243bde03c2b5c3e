pub mod Streams
pub mod Profiles
pub mod Steps
pub mod Promises
