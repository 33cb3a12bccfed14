pub mod Laws
pub mod Ranges
pub mod Rows68
pub mod RowsPpc
pub mod Steps
