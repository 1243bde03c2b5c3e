pub mod Streams
pub mod Extraction
pub mod Promises
