pub mod Utf8Laws
pub mod OneAnswer
