pub mod Fields
pub mod Refusing
pub mod Restoring
pub mod Spelling
pub mod laws
pub mod inner
