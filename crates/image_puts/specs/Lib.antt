pub mod Puts
pub mod Only
pub mod Takes
pub mod Maps
