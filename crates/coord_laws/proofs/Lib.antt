pub mod ListLemmas
pub mod ShownLemmas
pub mod DoneLemmas
pub mod StepLemmas
