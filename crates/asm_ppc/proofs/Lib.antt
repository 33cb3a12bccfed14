pub mod Texts
pub mod Rows
pub mod Complete
pub mod Printed
