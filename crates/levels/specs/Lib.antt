-- The definitions that the contracts cite.
pub mod Levels
pub mod Deals
