pub mod Advanced
pub mod Called
pub mod Looks
pub mod Told
