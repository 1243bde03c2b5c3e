pub mod KeyTable
pub mod CountingBits
pub mod LaneBits
pub mod Promises
