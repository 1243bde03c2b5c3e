pub mod Entries
pub mod Indexing
pub mod Promises
