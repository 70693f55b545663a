-- The definitions that the contracts of this crate cite.
pub mod Composed
pub mod Lanes
pub mod Pictures
pub mod Escaping
pub mod Labels
pub mod Names
pub mod Layout
pub mod Lists
pub mod Elements
pub mod Telling
pub mod Drawn
