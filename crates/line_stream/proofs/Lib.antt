pub mod LineLemmas
pub mod WindowLemmas
pub mod StreamSteps
pub mod ReadOn
pub mod ScheduleLemmas
