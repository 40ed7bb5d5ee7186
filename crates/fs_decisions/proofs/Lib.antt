pub mod RowLemmas
pub mod ChangeLemmas
pub mod NumberLemmas
pub mod GivenLemmas
pub mod UsedLemmas
pub mod SetAttrLemmas
pub mod WriteLemmas
pub mod DirectoryLemmas
pub mod TakeLemmas
pub mod RemoveLemmas
pub mod LinkLemmas
pub mod PairLemmas
pub mod GrowthLemmas
pub mod PlanLemmas
pub mod ChainLemmas
mod VerdictLemmas
