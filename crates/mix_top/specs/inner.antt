pub mod Lines
pub mod Parts
pub mod Samples
pub mod ScriptParts
pub mod Scripts
pub mod World
