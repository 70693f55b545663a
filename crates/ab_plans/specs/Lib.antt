-- The definitions that the contracts of this crate cite, and the laws of its protocol.
pub mod ChoiceRules
pub mod ChoiceLaws
pub mod Lawful
pub mod Runs
pub mod Examples
