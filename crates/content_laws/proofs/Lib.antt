pub mod JoinLemmas
pub mod PlaceLemmas
pub mod StepLemmas
pub mod FileLemmas
pub mod PartLemmas
pub mod NameLemmas
