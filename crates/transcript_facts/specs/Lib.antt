pub mod Now
pub mod Facts
