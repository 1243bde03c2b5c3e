pub mod FitLaws
pub mod SearchLaws
pub mod StepLaws
pub mod CutLaws
pub mod SalvageLaws
pub mod Promises
pub mod OneAnswer
