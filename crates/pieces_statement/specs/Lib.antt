pub mod Tallies
pub mod Stating
pub mod Promises
