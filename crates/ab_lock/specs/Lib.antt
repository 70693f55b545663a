-- PBFT at correct replicas, step by step, and what it promises over all views.
pub mod Steps
pub mod Quorums
pub mod Acts
pub mod Promises
pub mod Choosing
pub mod Votes
pub mod ViewChanges
pub mod Events
pub mod Standing
pub mod SmallActs
