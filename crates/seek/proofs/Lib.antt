pub mod HalvingLaws
pub mod SeekLaws
pub mod OneAnswer
pub mod Promises
