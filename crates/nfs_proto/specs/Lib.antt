pub mod Types
pub mod TypeLemmas
pub mod Arguments
pub mod Answers
pub mod AnswerLemmas
pub mod Laws
