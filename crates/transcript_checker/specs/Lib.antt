pub mod Standing
pub mod Plain
pub mod Beginning
pub mod Answers
