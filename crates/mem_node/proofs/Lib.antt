pub mod LawLemmas
pub mod DiskLemmas
pub mod NodeLemmas
pub mod ReplayLemmas
pub mod LoadLemmas
pub mod FormatLemmas
pub mod FreshLemmas
