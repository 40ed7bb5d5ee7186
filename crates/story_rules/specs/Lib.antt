pub mod MemoryNodes
pub mod Story
pub mod Steps
pub mod Cases
