pub mod Seen
pub mod Heard
pub mod Steps
