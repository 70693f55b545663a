-- The definitions that the contracts of this crate cite.
pub mod Timers
pub mod Nodes
pub mod Journals
pub mod Keys
pub mod Replicas
pub mod Clients
pub mod Reactions
pub mod Locality
pub mod Numbers
