-- The lemmas that this crate's answers cite.
pub mod PartLemmas
pub mod CommandLemmas
pub mod WritingLemmas
pub mod SpelledLemmas
pub mod RoundLemmas
pub mod ReadLemmas
pub mod FirstLemmas
pub mod FeedLemmas
pub mod WholeLemmas
pub mod FormLemmas
