-- The definitions that the contracts of this crate cite, and the laws of its protocol.
pub mod Rules
pub mod Laws
pub mod Forms
pub mod Beside
pub mod Drafts
pub mod RuleLaws
