-- The definitions that the contracts of this crate cite.
pub mod Derived
pub mod Faults
pub mod Versions
pub mod Keys
pub mod Spelling
pub mod Lines
pub mod Reading
pub mod Nodes
