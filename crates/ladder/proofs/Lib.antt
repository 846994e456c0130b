-- The lemmas that crates above may cite.
pub mod Found
pub mod Steps
