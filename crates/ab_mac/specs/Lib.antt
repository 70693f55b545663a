-- The definitions that the contracts of this crate cite.
pub mod Digests
pub mod Tags
