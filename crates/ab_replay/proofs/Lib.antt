-- The lemmas that the proofs of this crate share.
pub mod ReportLemmas
pub mod RunLemmas
pub mod StreamLemmas
pub mod TextLemmas
