pub mod Header
pub mod Half
pub mod Format
pub mod Lay
