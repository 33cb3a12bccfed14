pub mod Conditions
pub mod Fits
pub mod Longs
pub mod Modes
pub mod Needs
pub mod Widths
