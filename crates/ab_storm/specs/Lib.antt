-- The definitions that the contracts of this crate cite.
pub mod Storms
pub mod Runs
pub mod Standing
pub mod Summaries
pub mod Drawn
