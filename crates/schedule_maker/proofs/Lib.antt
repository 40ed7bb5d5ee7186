pub mod AskingLemmas
pub mod MakingLemmas
