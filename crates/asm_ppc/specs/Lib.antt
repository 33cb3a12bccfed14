pub mod Assembly
pub mod KnownLines
pub mod Reading
pub mod inner
pub mod laws
