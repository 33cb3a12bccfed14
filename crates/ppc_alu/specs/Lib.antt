pub mod ConditionBits
pub mod Masks
pub mod Outcomes
pub mod Words
