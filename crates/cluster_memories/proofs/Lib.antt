pub mod MemoryLemmas
pub mod RestLemmas
