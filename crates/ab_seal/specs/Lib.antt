-- The definitions that the contracts of this crate cite.
pub mod Receivers
pub mod Sealing
pub mod Carried
