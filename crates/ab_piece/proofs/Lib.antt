-- Lemmas of this crate.
pub mod AmongLemmas
pub mod ArrivalLemmas
pub mod BoundLemmas
pub mod ChangeLemmas
pub mod CountLemmas
pub mod CutLemmas
pub mod NumberLemmas
pub mod PieceLemmas
pub mod ReadLemmas
pub mod SlotLemmas
pub mod SpellLemmas
pub mod StepLemmas
pub mod UniqueLemmas
pub mod WholeLemmas
