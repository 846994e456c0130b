-- The definitions that the contracts cite.
pub mod Kinds
pub mod Openings
pub mod Reports
pub mod Promises
pub mod Texts
