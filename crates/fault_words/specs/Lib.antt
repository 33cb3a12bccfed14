pub mod Meanings
pub mod Reasons
pub mod Saved
