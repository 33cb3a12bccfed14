mod Chains
mod Points
