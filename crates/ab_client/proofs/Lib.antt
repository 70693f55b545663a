-- Lemmas of this crate.
pub mod AnswerLemmas
pub mod CertLemmas
pub mod ChoiceLemmas
pub mod MovedLemmas
pub mod RefLemmas
pub mod Targets
pub mod TimerLemmas
pub mod ZcertLemmas
