-- The definitions that the contracts of this crate cite.
pub mod Setups
pub mod Cores
pub mod Casts
pub mod Hearing
