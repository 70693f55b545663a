-- The definitions that the contracts of this crate cite.
pub mod Sites
pub mod Doings
pub mod Endings
pub mod Purposes
pub mod Crossings
pub mod Entries
