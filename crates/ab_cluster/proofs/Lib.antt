-- The lemmas that the proofs of this crate share.
pub mod ChildLemmas
pub mod ConclusionLemmas
pub mod JobLemmas
pub mod ReportLemmas
