pub mod MemoryStep
pub mod NodeStep
pub mod BeginStep
