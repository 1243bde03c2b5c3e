pub mod Settled
pub mod ByteLaws
pub mod TableLaws
pub mod BlockLaws
pub mod HeaderLaws
pub mod ChunkLaws
pub mod Promises
