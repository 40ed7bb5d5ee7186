pub mod BookLemmas
pub mod EventLemmas
pub mod ReplayLemmas
pub mod OpenLemmas
pub mod CommandLemmas
