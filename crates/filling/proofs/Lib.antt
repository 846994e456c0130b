-- Lemmas that several proofs share.
pub mod Filling
pub mod Gathering
