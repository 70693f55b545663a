-- The definitions that the contracts of this crate cite.
pub mod OwnCalls
pub mod Starts
pub mod Certified
pub mod SmallStarts
pub mod SmallCalls
pub mod SmallCommits
pub mod SmallLocks
pub mod SmallBackups
pub mod ReplicaActs
pub mod AllKinds
