pub use Rattle.fs_layout.specs.Words
pub use Rattle.fs_layout.specs.References
pub mod ReferenceLists
pub mod Chains
pub mod Laws
