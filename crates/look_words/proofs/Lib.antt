pub mod Ranges
pub mod Firsts
pub mod Sizes
pub mod Requests
