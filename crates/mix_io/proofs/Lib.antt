pub mod Keeps
pub mod Pieces
pub mod Streams
