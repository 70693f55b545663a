-- Lemmas of this crate.
pub mod TurnLemmas
pub mod PurposeLemmas
pub mod CrossingLemmas
pub mod StopLemmas
pub mod EndingLemmas
pub mod WithinLemmas
pub mod RestLemmas
