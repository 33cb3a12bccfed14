pub mod Counted
pub mod Encoded
pub mod Statuses
