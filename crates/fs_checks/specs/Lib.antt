pub mod Verdict
pub mod Facts
pub mod Rows
pub mod Removals
pub mod Naming
pub mod Laws
