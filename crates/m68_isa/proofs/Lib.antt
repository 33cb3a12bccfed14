pub mod Extensions
pub mod Bits
mod Opposites
pub mod Longs
pub mod Absent
pub mod ClassBits
mod Words
mod Used
pub mod ByOperation
pub mod Whole
pub mod ByLetter
