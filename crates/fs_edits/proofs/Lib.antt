pub mod PutLemmas
pub mod TakingLemmas
pub mod MakingLemmas
pub mod MovingLemmas
