pub mod LoopLemmas
pub mod CountLemmas
pub mod ReachedLemmas
pub mod GoodLemmas
pub mod NameLemmas
