pub mod Heads
pub mod Restoring
pub mod Testing
