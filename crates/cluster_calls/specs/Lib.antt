pub mod Counted
pub mod Known
pub mod Parts
