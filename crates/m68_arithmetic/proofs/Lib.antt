pub mod Alike
pub mod Quotients
pub mod Sources
