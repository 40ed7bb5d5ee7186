pub mod MapLemmas
pub mod ReadingLemmas
pub mod TableLemmas
