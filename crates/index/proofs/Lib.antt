pub mod EntryLaws
pub mod IndexLaws
pub mod OneAnswer
pub mod Promises
