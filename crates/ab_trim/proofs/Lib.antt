-- Lemmas of this crate.
pub mod Chains
pub mod Stands
pub mod Counts
pub mod Agreed
pub mod There
pub mod KnownPlaces
pub mod ChunkLemmas
pub mod HeadLemmas
pub mod RestLemmas
pub mod LastLemmas
pub mod TrimmedLemmas
pub mod FoundLemmas
pub mod OwnedLemmas
