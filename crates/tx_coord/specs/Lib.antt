pub mod Votes
pub mod State
pub mod Rules
pub mod Laws
pub mod Cases
pub mod Calls
