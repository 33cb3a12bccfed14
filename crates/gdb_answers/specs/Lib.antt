pub mod Answers
pub mod Descriptions
pub mod Registers
pub mod Stops
pub mod laws
