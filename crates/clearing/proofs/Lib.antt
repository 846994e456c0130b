-- Lemmas that several proofs share.
pub mod BothSides
pub mod RowWise
pub mod Shorts
pub mod Shown
pub mod Theorems
pub mod Composed
