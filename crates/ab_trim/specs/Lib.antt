-- Lists that have forgotten their first entries.
pub mod Links
pub mod Points
pub mod Known
pub mod Chained
pub mod Logs
