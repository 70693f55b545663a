-- What lists that forgot their first entries say of certificates, instances and runs.
pub mod Stable
pub mod AgreedLists
pub mod Certs
pub mod Leaving
pub mod CertActs
pub mod Offers
pub mod Reading
pub mod Owned
pub mod MarkedActs
pub mod Forgotten
pub mod Wholes
pub mod SmallVotes
pub mod SmallMarks
