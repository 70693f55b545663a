-- What a replica of PBFT keeps beside what its rules speak of, and what it sends.
pub mod Posts
pub mod Shelves
pub mod Signing
