pub mod Actions
pub mod Parts
pub mod Queries
pub mod Requests
pub mod Threads
pub mod laws
