pub mod SlotLemmas
pub mod BlockLemmas
pub mod SearchLemmas
