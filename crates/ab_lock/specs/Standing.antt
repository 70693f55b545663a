-- Where a replica is that its acts explain, and what it knows of the votes and VIEW-CHANGEs that it keeps.
use Rattle.std.specs.Prelude.{◌≡◌, ℕ, ◌+◌, ◌*◌, ◌<◌, nat_eq, Some, List, Contains, map, slice_get}
use Rattle.std.specs.List.{IsDistinct}
use Rattle.ab_lock.specs.Quorums.{IsOlder}
use Rattle.ab_lock.specs.Steps.{Cert, state_of, entry_of}
use Rattle.ab_lock.specs.Acts.{LockContent, Prepare, Commit, ViewChange, LockAct, steps_of, Knows, KnowsQuorum}
use Rattle.ab_lock.specs.Votes.{SlotVote, IsOnce}
use Rattle.ab_lock.specs.ViewChanges.{Kept}
use Rattle.ab_lock.specs.Events.{Peer}

module _ {V X : Type 0} (digest : V → X) (f : ℕ) where
  -- votes are kept once for each replica and slot, of replicas of the cluster, and me knows each
  pub record AreKeptVotes (acts : List (LockAct V X)) (me : ℕ) (what : ℕ → ℕ → X → LockContent X) (votes : List (SlotVote X)) : Type 0 where
    pub once : IsOnce votes
    pub within : (u : SlotVote X) → Contains votes u → u.by < 3 * f + 1
    pub known : (u : SlotVote X) → Contains votes u → Knows digest acts me (what u.by u.slot u.x)

  abbrev pub ArePrepares : List (LockAct V X) → ℕ → ℕ → List (SlotVote X) → Type 0
  ArePrepares acts me v votes = AreKeptVotes acts me (λ q n x. Prepare q v n x) votes

  abbrev pub AreCommits : List (LockAct V X) → ℕ → ℕ → List (SlotVote X) → Type 0
  AreCommits acts me v commits = AreKeptVotes acts me (λ q n x. Commit q v n x) commits

  -- replica me is where its acts leave it
  pub record PeerStands (acts : List (LockAct V X)) (me : ℕ) (p : Peer V X) : Type 0 where
    pub core : p.core ≡ state_of (steps_of acts me)
    pub votes : ArePrepares acts me p.core.view p.votes
    pub commits : AreCommits acts me p.core.view p.commits

  -- VIEW-CHANGEs are kept once for each replica, of replicas of the cluster; me knows each, and it fits
  pub record AreKeptChanges (acts : List (LockAct V X)) (me : ℕ) (kept : List (Kept V)) : Type 0 where
    pub once : IsDistinct nat_eq (map (λ u. u.change.by) kept)
    pub within : (u : Kept V) → Contains kept u → u.change.by < 3 * f + 1
    pub known : (u : Kept V) → Contains kept u → Knows digest acts me (ViewChange u.change.by u.view (map (entry_of digest) u.change.certs))
    pub fits : (u : Kept V) → Contains kept u → (t : ℕ) (cert : Cert V) → slice_get u.change.certs t ≡ Some cert
        → IsOlder cert.at u.view × KnowsQuorum digest f acts me (λ q. Prepare q cert.at t (digest cert.value))
