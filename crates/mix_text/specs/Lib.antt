pub mod Assembling
pub mod AssemblingClauses
pub mod Lines
pub mod Listing
pub mod ListingClauses
pub mod inner
pub mod laws
