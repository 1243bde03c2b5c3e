pub mod Names
pub mod Search
pub mod Lookups
pub mod Numbers
pub mod Promises
