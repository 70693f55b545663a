-- The definitions that the contracts of this crate cite.
pub mod Bounds
pub mod Limits
pub mod Parties
pub mod Places
