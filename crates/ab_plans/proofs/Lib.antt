-- Lemmas of this crate.
pub mod Choosing
pub mod Ordered
pub mod Computed
