-- Lemmas that several proofs share.
pub mod Dealing
pub mod Walking
pub mod Totals
