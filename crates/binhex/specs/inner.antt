pub mod Measured
pub mod Spread
pub mod Steps
pub mod Within
