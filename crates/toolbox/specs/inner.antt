pub mod Calls
pub mod Parts
pub mod Performs
pub mod Puts
