pub mod Acts
pub mod CrossingLaws
pub mod Crossings
pub mod Events
pub mod Laws
pub mod Runs
pub mod StepLaws
