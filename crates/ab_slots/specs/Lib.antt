-- The definitions that the contracts of this crate cite.
pub mod Inputs
pub mod Deeds
pub mod Based
pub mod Offers
pub mod Places
pub mod Waits
