pub mod Blocks
pub mod Tables
pub mod Films
pub mod Finding
pub mod Promises
