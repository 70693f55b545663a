-- The definitions that the contracts of this crate cite.
pub mod Clusters
pub mod Credentials
pub mod Cues
pub mod Parties
