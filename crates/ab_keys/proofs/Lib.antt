-- Lemmas on rings.
pub mod RingLemmas
pub mod TextLemmas
