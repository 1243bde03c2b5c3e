pub mod QuoteLaws
pub mod LengthLaws
pub mod ReadLaws
pub mod Promises
pub mod OneAnswer
pub mod Examples
