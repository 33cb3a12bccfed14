pub mod Kept
pub mod Streams
