mod FitLemmas
mod ShownLemmas
mod NodeLemmas
mod ReactLemmas
mod DeliverLemmas
mod OwnLemmas
mod SeatLemmas
mod BeginLemmas
mod ActLemmas
mod FlatLemmas
mod SoundLemmas
mod LawLemmas
mod OutcomeLemmas
pub mod ImageLemmas
pub mod MessageLemmas
