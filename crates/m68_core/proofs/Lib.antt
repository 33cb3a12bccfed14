pub mod ByOp
pub mod Fetching
pub mod Leaving
pub mod Operands
