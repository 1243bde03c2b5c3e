pub mod ZeroLaws
pub mod CheckLaws
pub mod WalkLaws
pub mod TableLaws
pub mod ModeLaws
pub mod OneAnswer
pub mod RefusalLaws
pub mod Promises
