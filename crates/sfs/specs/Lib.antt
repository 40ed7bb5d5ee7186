pub mod Schedule
pub mod Book
pub mod Legal
pub mod World
pub mod Replay
pub mod Status
pub mod Command
pub mod Run
