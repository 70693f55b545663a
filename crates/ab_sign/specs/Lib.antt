-- The definitions that the contracts of this crate cite.
pub mod Kept
pub mod Signers
pub mod Judges
