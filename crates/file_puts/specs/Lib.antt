pub mod Files
pub mod Edits
