pub mod Takes
pub mod Maps
pub mod Placed
