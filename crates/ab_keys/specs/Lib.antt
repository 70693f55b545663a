-- The definitions that the contracts of this crate cite.
pub mod Keys
pub mod Rings
pub mod Secrets
pub mod Tags
