pub mod Shifted
pub mod Leaving
pub mod Filled
pub mod Stored
pub mod Reversed
pub mod FieldLemmas
pub mod MaskLemmas
pub mod Alike
