pub mod Accounts
pub mod Boxed
pub mod Rack
pub mod RackClauses
pub mod Slots
pub mod SlotsClauses
