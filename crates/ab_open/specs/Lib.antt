-- The definitions that the contracts of this crate cite.
pub mod Messages
pub mod Named
pub mod Claimed
pub mod Trimmed
pub mod Opening
