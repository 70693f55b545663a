-- Lemmas of this crate.
pub mod OutsideLemmas
pub mod DidLemmas
pub mod CrashLemmas
pub mod JoinLemmas
pub mod FoldLemmas
pub mod FollowsLemmas
pub mod TurnLemmas
pub mod PastRunLemmas
pub mod DriveLemmas
pub mod ServeLemmas
pub mod AmongLemmas
pub mod LifeLemmas
pub mod PastLemmas
pub mod ExitLemmas
