-- The definitions that the contracts of this crate cite, and the laws of its protocol.
pub mod NullRules
pub mod NullLaws
pub mod SoloLaws
pub mod SoloRules
