pub mod Audios
pub mod Promises
