pub mod Messages
pub mod MessageLemmas
pub mod Heard
pub mod Hearing
pub mod Laws
