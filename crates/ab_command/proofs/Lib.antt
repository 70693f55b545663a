-- The lemmas that the proofs of this crate share.
pub mod Answering
pub mod NodeStatuses
pub mod JournalStatuses
pub mod ClusterStatuses
pub mod Settled
pub mod StatusLemmas
pub mod AuditStatuses
pub mod StormWords
pub mod OfStorm
pub mod ScheduleSettled
