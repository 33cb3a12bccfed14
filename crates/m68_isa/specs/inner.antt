pub mod Extended
pub mod Fields
pub mod First
pub mod Letters
pub mod Lines
