mod CaseLemmas
pub mod ParticipantLemmas
pub mod MissingLemmas
pub mod FitLemmas
mod DoneLemmas
pub mod ReadLemmas
mod LawLemmas
