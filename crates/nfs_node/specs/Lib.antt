pub mod Gathers
pub mod Progress
pub mod Calls
