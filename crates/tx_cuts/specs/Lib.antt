pub mod Cut
pub mod Holds
pub mod Backup
pub mod Whole
pub mod Laws
pub mod Sound
pub mod Sample
pub mod Cases
