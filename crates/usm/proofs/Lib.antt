mod ReplyLaws
mod PieceLaws
pub mod OneAnswer
pub mod Promises
