pub mod Payloads
pub mod Films
pub mod Sizes
pub mod Planning
