pub mod Blank
pub mod Taking
pub mod Giving
pub mod Moving
