-- Lemmas of this crate.
pub mod DigestLemmas
pub mod TrialLemmas
