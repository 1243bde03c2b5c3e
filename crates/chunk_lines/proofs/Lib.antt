pub mod LineLaws
pub mod TextLaws
pub mod Promises
pub mod OneAnswer
pub mod Examples
