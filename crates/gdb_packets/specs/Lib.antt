pub mod Hex
pub mod Packets
pub mod Reading
pub mod Stream
pub mod laws
