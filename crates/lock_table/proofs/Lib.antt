pub mod OrderLemmas
pub mod LineLemmas
pub mod WindowLemmas
pub mod PartLemmas
pub mod CellLemmas
pub mod LeastLemmas
pub mod TakenLemmas
pub mod CallLemmas
