pub mod AnswerLaws
pub mod Promises
