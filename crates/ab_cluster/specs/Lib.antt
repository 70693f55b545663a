-- The definitions that the contracts of this crate cite.
pub mod Children
pub mod Gathering
pub mod Jobs
pub mod Reports
pub mod Steps
pub mod Told
