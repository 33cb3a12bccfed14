pub mod Header
pub mod Ids
pub mod References
pub mod Resources
