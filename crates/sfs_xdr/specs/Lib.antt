pub use Rattle.sfs_base.specs.Reading as ReadingForms
pub mod Items
pub mod Reading
pub mod Codec
pub mod Faults
pub mod ItemLemmas
pub mod CodecLemmas
pub mod Laws
