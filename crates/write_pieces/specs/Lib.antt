pub mod Turns
pub mod Storing
pub mod TurnReplies
pub mod Writers
pub mod Promises
