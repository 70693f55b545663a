-- Lemmas of this crate.
pub mod Rows
pub mod MessageLemmas
pub mod ReadLemmas
pub mod NamedLemmas
pub mod OpenLemmas
pub mod ContentLemmas
pub mod TrimmedLemmas
pub mod ByteLemmas
