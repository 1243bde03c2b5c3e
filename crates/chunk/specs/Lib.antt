pub mod Chunks
pub mod Openings
pub mod Windows
pub mod Channels
pub mod Promises
