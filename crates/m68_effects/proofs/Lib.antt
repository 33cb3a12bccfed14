pub mod Twice
pub mod Pushed
pub mod Called
pub mod Stood
pub mod Refilled
pub mod Restored
pub mod Tried
pub mod Steps
mod Changing
