-- Lemmas of this crate.
pub mod SchemeLemmas
