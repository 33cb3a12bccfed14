pub mod Runs
pub mod Logs
pub mod Events
pub mod Over
pub mod Machines
pub mod Crossings
pub mod StepKinds
pub mod Trapped
