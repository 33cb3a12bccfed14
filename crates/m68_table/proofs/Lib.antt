pub mod Fields
pub mod Totals
mod Table
mod Counts
mod Modes
