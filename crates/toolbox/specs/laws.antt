pub mod Blames
pub mod Functions
pub mod Names
