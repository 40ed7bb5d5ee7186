pub mod Picked
pub mod Marks
pub mod Laws
