-- Lemmas of this crate.
pub mod SoloLemmas
