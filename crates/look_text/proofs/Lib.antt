pub mod Explained
pub mod Ranges
pub mod Refused
pub mod Mapping
pub mod Lines
