-- Lemmas of this crate.
pub mod SetupLemmas
pub mod PlaceLemmas
pub mod CoreLemmas
pub mod StepLemmas
pub mod StandLemmas
pub mod CastLemmas
pub mod ReplicaLemmas
