-- The definitions that the contracts of this crate cite.
pub mod Readers
pub mod Formats
pub mod Lists
pub mod Example
