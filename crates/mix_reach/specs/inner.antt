pub mod Quick
pub mod Steps
