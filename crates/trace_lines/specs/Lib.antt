pub mod EventLines
pub mod Exact
pub mod inner
