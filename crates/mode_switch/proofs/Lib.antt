pub mod Meant
pub mod Callees
