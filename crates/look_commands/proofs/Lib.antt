pub mod Loading
pub mod Serving
pub mod Cuts
pub mod Encoded
