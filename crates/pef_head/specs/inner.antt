pub mod Marks
pub mod Names
pub mod Owners
pub mod Relocations
pub mod Refusals
pub mod Container
pub mod Places
pub mod Parts
