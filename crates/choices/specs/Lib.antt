-- The definitions that the contracts cite.
pub mod Choices
-- The lemmas by which a rule by name proves the laws of sharing.
pub mod RuleByNameLemmas
