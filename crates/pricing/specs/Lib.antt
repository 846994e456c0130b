pub mod Prices
pub mod Scan
pub mod Choosing
pub mod Best
pub mod Scenes
pub mod Steps
pub mod Tallies
