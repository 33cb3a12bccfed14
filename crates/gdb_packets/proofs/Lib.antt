pub mod Bytes
pub mod Agreement
pub mod Digits
pub mod Streams
