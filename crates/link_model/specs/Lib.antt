pub mod Links
pub mod Places
pub mod PlaceLaws
pub mod PassLemmas
pub mod Simulated
pub mod Slots
pub mod Local
pub mod SlotLemmas
