pub mod Fetching
pub mod Order
pub mod Whole
pub mod Words
pub mod Pieces
