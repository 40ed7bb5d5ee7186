pub mod WritingLemmas
pub mod ArgumentLemmas
pub mod EntryLemmas
pub mod ArgumentLaws
pub mod AnswerLaws
