pub mod Typed
pub mod Unmade
