pub mod Called
pub mod Changes
pub mod Cores
pub mod Does
pub mod Frames
pub mod Turns
