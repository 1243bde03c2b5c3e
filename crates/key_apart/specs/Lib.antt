pub mod PayloadsApart
pub mod Promises
