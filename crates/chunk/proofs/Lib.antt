pub mod CaseLaws
pub mod FoundLaws
pub mod ChannelLaws
pub mod OneAnswer
pub mod OpeningLaws
pub mod WindowLaws
pub mod Promises
pub mod EndLaws
