pub mod HeaderTables
pub mod Promises
