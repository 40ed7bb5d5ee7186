pub mod WritingLemmas
pub mod FreshLemmas
pub mod FlatLemmas
pub mod ValidLemmas
