pub mod Sample
pub mod laws
