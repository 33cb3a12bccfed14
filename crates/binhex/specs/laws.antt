pub mod Packed
pub mod Sixths
pub mod Wholes
