pub mod Apart
pub mod Filled
pub mod Forms
pub mod Found
pub mod ReadBack
pub mod Longs
pub mod Operations
