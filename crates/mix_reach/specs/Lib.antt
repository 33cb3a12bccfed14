pub mod Ranges
pub mod laws
pub mod inner
