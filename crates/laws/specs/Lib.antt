pub mod Lists
pub mod Outputs
