-- Lemmas of this crate.
pub mod Calls
pub mod ToldLemmas
pub mod ViewLemmas
pub mod Working
