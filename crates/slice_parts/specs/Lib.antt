pub mod Buffers
pub mod Rooms
pub mod Words
