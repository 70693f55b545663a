-- Lemmas of this crate.
mod StatedLemmas
pub mod ReceiverLemmas
pub mod DraftLemmas
pub mod FreshLemmas
pub mod ChainLemmas
pub mod PlaceLemmas
pub mod PassedLemmas
pub mod SealedLemmas
