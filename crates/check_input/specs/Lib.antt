pub mod Whole
pub mod Input
