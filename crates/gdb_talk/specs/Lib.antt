pub mod Deeds
pub mod Talks
