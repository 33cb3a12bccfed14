pub mod Frames
pub mod Back
pub mod Apart
pub mod Handed
pub mod Gathered
