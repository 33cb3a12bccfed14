pub mod Arguments
pub mod Deliver
pub mod DeliverClauses
pub mod Results
pub mod Words
pub mod laws
