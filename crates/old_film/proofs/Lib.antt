pub mod FindLaws
pub mod EndLaws
pub mod BackLaws
pub mod Promises
pub mod OneAnswer
