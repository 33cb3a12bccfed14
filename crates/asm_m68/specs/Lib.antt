pub mod Assembly
pub mod AssemblyClauses
pub mod Code
pub mod KnownLines
pub mod Reading
pub mod inner
pub mod laws
