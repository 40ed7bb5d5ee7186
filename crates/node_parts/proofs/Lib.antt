mod EntryLemmas
pub mod MoveLemmas
