pub mod Counts
pub mod Reading
pub mod Input
pub mod Writing
pub mod Command
