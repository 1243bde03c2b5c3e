pub mod PayloadBits
pub mod Promises
