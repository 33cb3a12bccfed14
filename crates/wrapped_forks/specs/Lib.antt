pub mod Forks
pub mod laws
