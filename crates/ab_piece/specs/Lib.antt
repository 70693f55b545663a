-- The definitions that the contracts of this crate cite.
pub mod Arrivals
pub mod Bounds
pub mod Joining
pub mod Pieces
pub mod Views
pub mod Wholes
