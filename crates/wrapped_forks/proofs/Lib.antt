pub mod Fronts
pub mod Wholes
