-- The definitions that the contracts cite.
pub mod Counts
pub mod Entries
pub mod Levels
pub mod Pairs
pub mod Sends
-- The lemmas by which the depth table proves the laws of a shown market.
pub mod Depths
