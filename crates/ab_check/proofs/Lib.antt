-- Lemmas of this crate.
pub mod ListLemmas
pub mod MessageLemmas
pub mod ClaimLemmas
