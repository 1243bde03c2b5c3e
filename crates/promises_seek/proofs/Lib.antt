pub mod ChainLaws
pub mod EntryLaws
pub mod Promises
