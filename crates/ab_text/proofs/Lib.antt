-- The lemmas that the proofs of this crate share.
pub mod LineLemmas
pub mod NumberLemmas
pub mod WordLemmas
pub mod PartLemmas
pub mod CoreLemmas
pub mod HexLemmas
pub mod HeadLemmas
pub mod SpellingLemmas
pub mod FormLemmas
pub mod UniqueLemmas
pub mod FaultLemmas
pub mod FrontLemmas
pub mod FeedLemmas
pub mod WritingLemmas
