pub mod Reply
pub mod Mounting
pub mod Needs
pub mod Arguments
pub mod ArgumentLemmas
