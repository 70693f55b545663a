-- Lemmas of this crate.
pub mod MarkLemmas
pub mod StableLemmas
