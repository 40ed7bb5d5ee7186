pub mod Doubts
