-- Lemmas of this crate.
pub mod VoteLemmas
pub mod SlotLemmas
pub mod KeptLemmas
pub mod WaitingLemmas
pub mod CertLemmas
pub mod ChosenLemmas
pub mod ApartLemmas
