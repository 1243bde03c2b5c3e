pub mod LineLaws
pub mod StateLaws
pub mod GivenLaws
pub mod OrderLaws
pub mod Promises
pub mod OneAnswer
