pub mod Keys
pub mod Held
pub mod Requested
pub mod Moves
mod Proper
