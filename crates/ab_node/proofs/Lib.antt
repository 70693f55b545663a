-- The lemmas that the proofs of this crate share.
pub mod PartyLemmas
pub mod TextLemmas
pub mod CrashLemmas
pub mod JournalLemmas
pub mod MemberLemmas
pub mod CommitLemmas
pub mod LocalLemmas
pub mod JointLemmas
pub mod FormedLemmas
pub mod IdleLemmas
pub mod NumberLemmas
