pub mod TreeLemmas
pub mod PlaceLemmas
pub mod KeptLemmas
