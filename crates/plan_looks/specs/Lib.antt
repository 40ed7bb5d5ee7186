pub mod Firsts
pub mod Goes
pub mod Held
pub mod Live
pub mod Names
