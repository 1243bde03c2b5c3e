pub mod FilmsApart
pub mod Reasons
pub mod Promises
