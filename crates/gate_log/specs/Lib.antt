pub mod Append
pub mod Boot
pub mod Fault
pub mod Laws
pub mod Log
pub mod Scan
pub mod Window
