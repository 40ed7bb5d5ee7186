pub use Rattle.fs_edits.specs.Moving
pub mod Steps
pub mod Limits
pub mod Given
pub mod Removing
pub mod Linking
pub mod Renaming
