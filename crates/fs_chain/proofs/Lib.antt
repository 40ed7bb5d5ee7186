pub mod ReferencesLemmas
pub mod BytesLemmas
pub mod ChainLemmas
