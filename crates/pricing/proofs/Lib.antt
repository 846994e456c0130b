pub mod Scans
pub mod Slopes
pub mod Walks
pub mod Bests
