-- The definitions that the contracts of this crate cite.
pub mod Accusations
pub mod Statements
pub mod Exhibits
pub mod Kept
pub mod Audits
pub mod Correct
pub mod Reports
pub mod Tellings
