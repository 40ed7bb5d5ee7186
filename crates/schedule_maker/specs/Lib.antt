pub mod Draws
pub mod Making
pub mod Left
pub mod Laws
