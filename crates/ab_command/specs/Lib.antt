-- What the contracts of this crate cite.
pub mod Calls
pub mod Clusters
pub mod Commands
pub mod Endings
pub mod Journals
pub mod Audits
pub mod Outputs
pub mod Statuses
pub mod Texts
pub mod ScheduleEndings
pub mod Written
