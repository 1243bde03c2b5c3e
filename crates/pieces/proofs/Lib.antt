pub mod OneAnswer
pub mod PieceLaws
pub mod Promises
