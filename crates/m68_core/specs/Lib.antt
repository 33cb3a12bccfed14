pub mod Fetch
pub mod FetchClauses
pub mod Steps
pub mod inner
pub mod laws
