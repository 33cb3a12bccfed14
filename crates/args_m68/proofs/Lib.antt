pub mod Stacks
pub mod Files
pub mod Back
pub mod Given
pub mod Spots
pub mod Handed
pub mod Gathered
