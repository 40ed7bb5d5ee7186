pub mod PlaceLemmas
mod EntryLemmas
