pub mod Finals
pub mod Lookup
pub mod Readings
