pub mod Lists
pub mod Mini
pub mod Decision
pub mod World
pub mod Opening
pub mod Laws
