pub mod Build
pub mod Choice
pub mod Read
pub mod Scans
