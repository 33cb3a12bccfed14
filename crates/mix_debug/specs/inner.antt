pub mod Entries
pub mod Histories
pub mod Pasts
pub mod Reaches
pub mod WrittenBack
