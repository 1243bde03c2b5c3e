pub mod Shown
pub mod KeyBits
pub mod Promises
