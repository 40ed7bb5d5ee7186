pub mod GoesLemmas
pub mod LookLemmas
pub mod NameLemmas
pub mod CompareLemmas
