-- The definitions that the contracts of this crate cite.
pub mod Lines
pub mod Numbers
pub mod Cores
pub mod HexDigits
pub mod HexBytes
pub mod EventLines
pub mod Heads
pub mod Settings
pub mod Schedules
pub mod Spelling
pub mod Forms
pub mod Reports
pub mod Faults
pub mod Texts
