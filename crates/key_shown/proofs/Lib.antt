pub mod ShownLaws
pub mod PieceLaws
mod KeyBitsLaws
pub mod Promises
pub mod OneAnswer
