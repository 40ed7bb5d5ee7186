pub mod WordsLemmas
pub mod NumberLemmas
pub mod BytesLemmas
pub mod WritingLemmas
pub mod ReadingLemmas
pub mod SpellingLemmas
