pub mod Lookups
pub mod Steps
pub mod NextId
pub mod Ids
pub mod Listing
pub mod Small
mod Walk
pub mod Counts
