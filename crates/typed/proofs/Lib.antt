pub mod TypedLaws
pub mod DigitLaws
pub mod Promises
pub mod Examples
pub mod OneAnswer
