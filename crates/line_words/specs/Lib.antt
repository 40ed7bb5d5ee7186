pub mod Digits
pub mod Words
pub mod Reading
pub mod Writing
