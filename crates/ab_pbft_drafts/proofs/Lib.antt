-- Lemmas of this crate.
pub mod Lists
pub mod Ballots
pub mod Proofs
pub mod Certificates
pub mod Values
pub mod Reading
pub mod Putting
pub mod Sending
pub mod Events
pub mod KeptBytes
