pub mod Walks
pub mod LastZero
pub mod Tables
pub mod Promises
