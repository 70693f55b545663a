-- Lemmas of this crate.
pub mod PastLemmas
pub mod ResumeLemmas
