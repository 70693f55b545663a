-- Lemmas of this crate.
pub mod ListLemmas
pub mod EqLemmas
pub mod SubjectLemmas
pub mod KeptLemmas
pub mod StatementLemmas
pub mod NewsLemmas
pub mod EvidenceLemmas
pub mod OnceLemmas
pub mod AccusedLemmas
pub mod TellingLemmas
pub mod CorrectLemmas
