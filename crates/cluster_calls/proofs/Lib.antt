pub mod BootLemmas
pub mod ActLemmas
pub mod GiveLemmas
