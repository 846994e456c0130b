-- The definitions that the contracts cite.
pub mod Settings
pub mod Stages
pub mod Waits
pub mod Messages
pub mod Looks
pub mod Decisions
