pub mod LookupLemmas
pub mod PlanLemmas
pub mod ReadingLemmas
