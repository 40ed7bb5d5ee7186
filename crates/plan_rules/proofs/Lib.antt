pub mod SearchLemmas
pub mod OrderLemmas
pub mod MatchedLemmas
mod ExampleLemmas
