pub mod Slots
pub mod Books
