-- The definitions that the contracts of this crate cite.
pub mod Choices
pub mod Clients
pub mod Moved
pub mod Timers
