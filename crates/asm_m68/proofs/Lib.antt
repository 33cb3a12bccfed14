mod FormNames
pub mod Complete
pub mod Printed
mod Alike
mod Same
pub mod Prefix
pub mod TakenBack
mod Digits
mod Texts
mod Commas
mod Places
mod Parts
mod Numbers
mod FirstWords
mod Shapes
mod Rows
mod Telling
mod Spelled
