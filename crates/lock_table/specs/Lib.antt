pub mod Order
pub mod Spans
pub mod Locked
pub mod Table
