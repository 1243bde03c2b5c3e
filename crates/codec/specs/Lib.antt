pub mod Codecs
pub mod Kinds
pub mod Numbers
pub mod Promises
