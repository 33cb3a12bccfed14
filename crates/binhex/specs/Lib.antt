pub mod Forks
pub mod OutcomeClauses
pub mod Packing
pub mod Parts
pub mod Runs
pub mod Text
pub mod laws
pub mod inner
