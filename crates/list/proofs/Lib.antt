pub mod FillLaws
pub mod ReplyLaws
pub mod PastLaws
pub mod OneAnswer
pub mod Promises
