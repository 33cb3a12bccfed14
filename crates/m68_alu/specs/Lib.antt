pub mod Decimal
pub mod Logical
pub mod Products
pub mod Shifts
pub mod Sizes
pub mod Sums
pub mod laws
