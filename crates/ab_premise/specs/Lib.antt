-- The definitions that the contracts of this crate cite.
pub mod Collisions
pub mod Premises
pub mod Spelled
pub mod Watching
