pub mod State
pub mod Rules
pub mod Calls
pub mod Laws
pub mod Cases
