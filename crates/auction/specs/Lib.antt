-- The definitions that the contracts cite.
pub mod Acts
pub mod Auctions
