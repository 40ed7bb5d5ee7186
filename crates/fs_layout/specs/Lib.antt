pub mod Words
pub mod References
pub mod Inodes
pub mod Handles
pub mod Superblocks
pub mod Places
pub mod Laws
