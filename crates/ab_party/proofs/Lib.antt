-- Lemmas of this crate.
pub mod DeliveryLemmas
mod SealLemmas
mod ReplicaLemmas
mod ClientLemmas
