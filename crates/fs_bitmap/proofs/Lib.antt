pub mod ByteLemmas
pub mod MapLemmas
