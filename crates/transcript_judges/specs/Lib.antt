pub mod Tests
pub mod Rules
