pub mod WordLemmas
pub mod RecordLemmas
