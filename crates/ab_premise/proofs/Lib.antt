-- Lemmas of this crate.
pub mod LookLemmas
pub mod ClaimLemmas
pub mod StatingLemmas
mod Kept
pub mod Holds
pub mod Looks
pub mod Watches
pub mod Lines
pub mod Spelled
