pub mod EntryLemmas
pub mod AscendingLemmas
pub mod KeptLemmas
