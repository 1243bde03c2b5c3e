pub mod PieceLaws
pub mod BeginningLaws
pub mod OnwardLaws
pub mod Promises
pub mod OneAnswer
