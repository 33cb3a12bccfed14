pub mod Arguments
pub mod Filling
pub mod Nothing
pub mod Shapes
pub mod Signature
