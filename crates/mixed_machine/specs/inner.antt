pub mod Machine
pub mod Outside
pub mod Parts
