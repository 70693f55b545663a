-- The definitions that the contracts of this crate cite.
pub mod Cores
pub mod Edges
pub mod Folds
pub mod Lives
pub mod Nodes
pub mod Past
pub mod Runs
pub mod Settings
pub mod Texts
