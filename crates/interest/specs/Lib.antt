pub mod Bounds
pub mod Sides
pub mod Refusals
pub mod Same
