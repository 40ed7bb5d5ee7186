pub mod Cells
pub mod Shown
pub mod Laws
pub mod Cuts
pub mod Loaded
pub mod Minis
pub mod Steps
