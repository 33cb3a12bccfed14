pub mod Place
pub mod PlaceClauses
pub mod Sound
pub mod Space
pub mod SpaceClauses
pub mod laws
