pub mod Puts
pub mod Reaching
pub mod Rests
pub mod Steps
pub mod Numbers
pub mod Packed
pub mod Sixths
pub mod Wholes
