pub mod Laws
pub mod StorageLaws
