pub mod Backs
pub mod Places
pub mod Points
pub mod Walkers
pub mod WalkersClauses
pub mod Walks
pub mod inner
