pub mod Laws
pub mod Memory
pub mod NumberLaws
pub mod PutLaws
pub mod Stores
