-- The lemmas that the proofs of this crate share.
pub mod Fronts
pub mod Settled
pub mod Walks
