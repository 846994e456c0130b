-- The definitions that the contracts cite.
pub mod Holdings
pub mod Levels
pub mod Totals
pub mod Sizes
pub mod InOrder
pub mod ProRata
pub mod Ranked
pub mod Promises
-- The lemmas by which the rules prove the laws of sharing.
pub mod Keeping
pub mod InOrders
pub mod PartFacts
pub mod Claims
pub mod RankTotals
pub mod RankPlaces
pub mod Choosings
pub mod Turns
pub mod Pads
