pub mod Deciding
pub mod KindLemmas
pub mod TestLemmas
