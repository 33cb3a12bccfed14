pub mod Laws
pub mod Names
pub mod Numbers
pub mod Ranges
pub mod SearchLaws
