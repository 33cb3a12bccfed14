pub mod Additions
pub mod Held
pub mod Pieces
pub mod Repeating
pub mod Program
pub mod Pattern
