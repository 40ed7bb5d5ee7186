pub mod RespondLemmas
pub mod BuiltLemmas
pub mod MeetsLemmas
pub mod ChangedLemmas
pub mod TakenLemmas
pub mod MovedLemmas
pub mod MakeLimitLemmas
pub mod MadeLemmas
pub mod NewNameLemmas
pub mod CreateLemmas
pub mod ExistingLemmas
pub mod NewFileLemmas
pub mod MakeDirLemmas
pub mod SymLinkLemmas
pub mod CopyLemmas
mod LeftLemmas
mod ToldLemmas
mod AboutLemmas
