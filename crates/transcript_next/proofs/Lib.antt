pub mod NextLemmas
pub mod OverLemmas
pub mod SameLemmas
