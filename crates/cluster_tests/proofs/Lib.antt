pub mod RestLemmas
