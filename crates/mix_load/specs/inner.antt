pub mod ForkImage
pub mod Loaded
pub mod Outcome
pub mod Sections
pub mod Container
