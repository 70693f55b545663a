-- Lemmas on digests.
pub mod Sha256Lemmas
pub mod Pads
