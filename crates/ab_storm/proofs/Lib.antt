-- Lemmas of this crate.
pub mod Happenings
pub mod DrawLemmas
pub mod Stepping
pub mod StormLemmas
pub mod SummaryLemmas
pub mod Keeping
pub mod Printing
