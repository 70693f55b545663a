-- Lemmas of this crate.
pub mod KeepingLemmas
pub mod RoomLemmas
pub mod SendingLemmas
