-- The definitions that the contracts of the auction's calls cite.
pub mod States
pub mod Steps
pub mod Ticks
pub mod Histories
pub mod Laws
