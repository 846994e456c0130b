-- Lemmas that several proofs share.
pub mod Standing
pub mod Sums
pub mod Chosen
pub mod Openings
pub mod Ledger
pub mod Law
