pub mod Tellings
