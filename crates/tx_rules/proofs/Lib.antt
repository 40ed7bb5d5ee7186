pub mod GrowthLemmas
pub mod FaithfulLemmas
pub mod StoredLemmas
pub mod SoundLemmas
pub mod LawLemmas
