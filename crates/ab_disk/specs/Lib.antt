-- The definitions that the contracts of this crate cite.
pub mod Causes
pub mod Disks
pub mod Keeping
pub mod Laws
pub mod Nothing
pub mod Told
