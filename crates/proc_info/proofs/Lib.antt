pub mod Params
pub mod Makes
pub mod Written
pub mod Fields
pub mod Rules
pub mod Exact
pub mod Chains
