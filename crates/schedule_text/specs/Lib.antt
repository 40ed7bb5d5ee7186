pub mod Plan
pub mod Stream
