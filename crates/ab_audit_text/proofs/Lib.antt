-- The lemmas that the proofs of this crate share.
pub mod HexLemmas
pub mod MessageLemmas
pub mod TextLemmas
pub mod FirstLemmas
