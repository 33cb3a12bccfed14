pub mod Laws
pub mod Wanted
