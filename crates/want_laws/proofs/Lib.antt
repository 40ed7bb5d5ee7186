pub mod TellLemmas
pub mod PartLemmas
pub mod OrderLemmas
