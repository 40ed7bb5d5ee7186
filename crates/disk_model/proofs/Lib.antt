pub mod ContentLemmas
pub mod HealthLemmas
pub mod MomentLemmas
pub mod PlanLemmas
pub mod StoreLemmas
