pub mod Tenants
pub mod Shares
pub mod Promises
