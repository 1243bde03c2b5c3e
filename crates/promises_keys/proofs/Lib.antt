pub mod OrderLaws
pub mod ThreeLaws
pub mod Promises
