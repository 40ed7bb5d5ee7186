pub mod RecordLemmas
pub mod ItemLemmas
pub mod GoodLemmas
pub mod ReactionLemmas
pub mod AnswerLemmas
pub mod IndexLemmas
pub mod HolderLemmas
