mod CodecLaws
mod ShortLaws
mod AgainLaws
mod BuiltLaws
pub mod Promises
