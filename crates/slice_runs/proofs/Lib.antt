pub mod Keeping
pub mod Starting
pub mod Worded
