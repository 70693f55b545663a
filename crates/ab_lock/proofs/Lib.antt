-- Lemmas of this crate.
pub mod Lists
pub mod CertLemmas
pub mod Consistent
pub mod Traces
pub mod QuorumLemmas
pub mod Locks
pub mod Executed
pub mod ActLemmas
pub mod PromiseLaws
pub mod ChoosingLemmas
pub mod VoteLemmas
pub mod ExecutedFits
pub mod ViewChangeLemmas
pub mod EventLaws
pub mod Settling
pub mod KeptChanges
pub mod SmallWitness
