pub mod BegunLemmas
pub mod RefusedLemmas
pub mod SiteLemmas
