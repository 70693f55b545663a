-- The definitions that the contracts of this crate cite, and the laws of its service.
pub mod Machines
pub mod Echoes
pub mod Laws
