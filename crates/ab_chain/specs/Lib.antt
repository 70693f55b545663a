-- The definitions that the contracts of this crate cite, and the laws of its protocol.
pub mod Tags
pub mod Rules
pub mod Passing
pub mod Laws
pub mod RuleLaws
