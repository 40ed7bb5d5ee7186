pub mod Doubts
pub mod Reactions
pub mod Sending
