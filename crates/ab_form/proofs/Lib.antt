-- Lemmas of this crate.
pub mod StepLemmas
pub mod FormatLemmas
pub mod PartLemmas
pub mod LoopLemmas
pub mod ListLemmas
pub mod ExampleLemmas
