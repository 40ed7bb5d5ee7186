pub mod PartLemmas
pub mod ListedLemmas
pub mod LineLemmas
