pub mod ReadLemmas
pub mod PartLemmas
pub mod KeptLemmas
