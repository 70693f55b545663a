-- The definitions that the contracts of this crate cite.
pub mod Causes
pub mod Datagrams
pub mod Readings
pub mod States
pub mod Told
