pub mod Bands
pub mod Ranges
pub mod Texts
