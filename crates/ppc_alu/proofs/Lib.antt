pub mod MaskLemmas
pub mod ShiftLemmas
pub mod SignedLemmas
