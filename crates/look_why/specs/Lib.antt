pub mod Kinds
pub mod Lines
pub mod Operands
pub mod Places
pub mod Reports
pub mod Rules
pub mod Scripts
pub mod Texts
