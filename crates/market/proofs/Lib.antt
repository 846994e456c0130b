-- The lemmas that crates above may cite.
pub mod Bests
pub mod Placed
pub mod Lowers
pub mod Foremosts
pub mod Pairs
pub mod Sends
pub mod Shows
pub mod SendLists
