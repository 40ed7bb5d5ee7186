pub use Rattle.fs_layout.specs.Words
pub mod Slots
pub mod Laws
