pub mod Laws
pub mod MovemLaws
pub mod Operations
pub mod Ops
pub mod StepLaws
pub mod Tried
