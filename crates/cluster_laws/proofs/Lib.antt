pub mod ReactionLemmas
pub mod DoubtLemmas
pub mod SendingLemmas
