pub mod Code
pub mod Descriptors
