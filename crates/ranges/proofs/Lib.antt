pub mod Lookup
pub mod Opening
