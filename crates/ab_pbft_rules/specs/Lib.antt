-- PBFT's rules at one replica, and over the acts of an instance.
pub mod Traces
pub mod Locks
pub mod Rules
pub mod Standing
pub mod Examples
