pub mod Fetch
pub mod Tested
