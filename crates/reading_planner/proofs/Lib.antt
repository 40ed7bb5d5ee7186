pub mod SizedLemmas
pub mod ListingLemmas
pub mod AnswerLemmas
pub mod PlanLemmas
