pub mod GoLemmas
pub mod BlockLemmas
pub mod ListingLemmas
