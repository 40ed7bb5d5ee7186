pub mod Lines
pub mod Reading
pub mod LineReader
pub mod Output
pub mod ScheduleReader
pub mod Schedule
