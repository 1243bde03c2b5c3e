pub mod TypedNumbers
pub mod KeyDigits
pub mod Verdicts
pub mod Promises
