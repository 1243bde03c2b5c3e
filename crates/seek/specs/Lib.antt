pub mod Entries
pub mod Seeking
pub mod Promises
