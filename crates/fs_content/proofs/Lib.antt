pub mod IndexLemmas
pub mod ListingLemmas
pub mod PartLemmas
pub mod PieceLemmas
pub mod SizeLemmas
pub mod SlotLemmas
pub mod UsedLemmas
pub mod WrittenLemmas
