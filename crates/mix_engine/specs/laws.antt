pub mod CallLaws
pub mod Laws
