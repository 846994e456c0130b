-- Lemmas that several proofs share.
pub mod Routing
pub mod Sending
