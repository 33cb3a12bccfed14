pub mod Decimals
pub mod NameLists
mod Apart
