pub mod Entries
pub mod Scan
pub mod KindLaws
pub mod OneAnswer
pub mod Promises
pub mod BoundLaws
