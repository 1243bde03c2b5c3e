pub mod Rows
pub mod Audio
pub mod Video
pub mod Positions
pub mod Promises
