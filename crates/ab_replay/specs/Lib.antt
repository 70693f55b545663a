-- The definitions that the contracts of this crate cite.
pub mod Protocols
pub mod Refusals
pub mod Replays
pub mod Streams
