pub mod Geometries
pub mod Fillings
