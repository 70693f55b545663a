-- Lemmas of this crate.
pub mod TurnLemmas
pub mod SettleLemmas
pub mod StepLemmas
pub mod RuleLemmas
pub mod Gathering
pub mod SlotLemmas
pub mod BaseLemmas
