pub mod Coming
pub mod Nexts
pub mod Overs
pub mod Same
