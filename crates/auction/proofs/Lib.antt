-- Lemmas that several proofs share.
pub mod Calls
pub mod Moves
