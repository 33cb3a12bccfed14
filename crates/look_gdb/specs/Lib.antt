pub mod Commands
pub mod Halts
pub mod Notes
pub mod Serving
pub mod Views
pub mod Walks
