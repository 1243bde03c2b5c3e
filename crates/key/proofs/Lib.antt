pub mod TableLaws
pub mod VeilLaws
mod AndLaws
mod LaneBytes
mod MaskedBytes
pub mod KeyBits
pub mod Promises
pub mod OneAnswer
