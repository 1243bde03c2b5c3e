pub mod StreamLaws
pub mod ChannelLaws
pub mod WrittenLaws
pub mod AnswerLaws
pub mod ResultLaws
pub mod Promises
pub mod OneAnswer
