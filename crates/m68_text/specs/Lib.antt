pub mod Instructions
pub mod Listed
pub mod Names
pub mod Operands
pub mod Text
pub mod laws
pub mod inner
