-- The definitions that the contracts of this crate cite, and the laws of its service.
pub mod Commands
pub mod Readings
pub mod Stores
pub mod Views
pub mod Contents
pub mod KvMachines
pub mod Rows
pub mod Laws
