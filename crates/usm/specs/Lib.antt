pub mod Exports
pub mod Writes
pub mod Pieces
pub mod Moves
pub mod Tables
pub mod Steps
pub mod Promises
