pub mod Moves
pub mod Votes
