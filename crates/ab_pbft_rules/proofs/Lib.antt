-- Lemmas of this crate.
pub mod RuleInduction
pub mod GoodValues
pub mod Growing
pub mod Allowed
pub mod SlotValues
pub mod ChangeInputs
pub mod EventSteps
pub mod ExecutedLists
pub mod OneOrder
pub mod LockedActs
pub mod StandingLaws
pub mod OrderlyOrderer
pub mod LawfulOrderer
pub mod Computed
