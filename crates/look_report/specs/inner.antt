pub mod Registers
pub mod Statuses
