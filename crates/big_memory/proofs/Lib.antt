pub mod Lists
pub mod Packed
pub mod Guarded
pub mod Rams
pub mod Free
pub mod Writes
pub mod Longs
pub mod Numbers
