-- Lemmas that several proofs share.
pub mod Pushes
pub mod Sums
pub mod ClaimFacts
