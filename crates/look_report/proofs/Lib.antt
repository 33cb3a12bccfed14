mod Blocks
mod Callers
pub mod Kept
