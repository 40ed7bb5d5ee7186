pub mod Posts
pub mod Opens
pub mod Sayings
