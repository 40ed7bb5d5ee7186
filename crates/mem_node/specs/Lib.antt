pub mod Disk
pub mod Node
pub mod Laws
pub mod Fault
pub mod Format
