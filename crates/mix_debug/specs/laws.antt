pub mod ChangeLaws
pub mod Trips
