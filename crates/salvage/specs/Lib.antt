pub mod Salvage
pub mod Fits
pub mod Promises
