-- What a replica goes on to do by itself, from the votes that it keeps.
use Rattle.std.specs.Prelude.{◌≡◌, ℕ, zero, suc, Bool, ◌==◌, ◌&&◌, nat_lt, nat_le, if◌then◌else◌, Option, Some, None, List, [], ◌∷◌, ◌++◌, length, take, slice_get, Contains, pred}
use Rattle.std.specs.List.{list_any}
use Rattle.ab_lock.specs.Quorums.{quorum}
use Rattle.ab_lock.specs.Steps.{Step, accepts, signs, prepares, changes, enters, executes, State, after}

-- a PREPARE or COMMIT of the view
pub record SlotVote (X : Type 0) : Type 0 where
  pub by : ℕ
  pub slot : ℕ
  pub x : X

module _ {X : Type 0} where
  -- each replica's first vote for a slot is kept
  abbrev pub IsOnce : List (SlotVote X) → Type 0
  IsOnce [] = Unit {0}
  IsOnce (u ∷ votes) = ((w : SlotVote X) → Contains votes w → w.by ≡ u.by → w.slot ≡ u.slot → ⊥) × IsOnce votes

  -- the vote is kept where none of this replica is there for the slot
  abbrev pub keep : SlotVote X → List (SlotVote X) → List (SlotVote X)
  keep u votes = if list_any (λ w. (w.by == u.by) && (w.slot == u.slot)) votes then votes else u ∷ votes

  module _ (same : X → X → Bool) where
    -- the vote is for x in slot n
    abbrev pub is_for : SlotVote X → ℕ → X → Bool
    is_for u n x = (u.slot == n) && same u.x x

    -- the replicas that voted so
    abbrev pub voters : List (SlotVote X) → ℕ → X → List ℕ
    voters [] n x = []
    voters (u ∷ votes) n x = if is_for u n x then u.by ∷ voters votes n x else voters votes n x

    abbrev pub is_enough : ℕ → List (SlotVote X) → ℕ → X → Bool
    is_enough f votes n x = nat_le (quorum f) (length (voters votes n x))

abbrev pub or_else : {A : Type 0} → Option A → Option A → Option A
or_else (Some a) other = Some a
or_else None other = other

module _ {V X : Type 0} (digest : V → X) where
  abbrev pub signs_at : ℕ → ℕ → Option V → Option (Step V X)
  signs_at v n None = None
  signs_at v n (Some value) = Some (signs v n (digest value))

  -- the lowest slot that is accepted and not signed, where all lower ones are prepared
  abbrev pub next_sign : State V → Option (Step V X)
  next_sign s =
      if s.signed == s.prepared then signs_at s.view s.signed (slice_get s.accepted s.signed) else None

  module _ (same : X → X → Bool) where
    abbrev pub where_enough : ℕ → List (SlotVote X) → ℕ → Step V X → Option V → Option (Step V X)
    where_enough f votes n step None = None
    where_enough f votes n step (Some value) = if is_enough same f votes n (digest value) then Some step else None

    -- the signed slot that is not prepared yet, where enough PREPAREs are there
    abbrev pub next_prepare : ℕ → State V → List (SlotVote X) → Option (Step V X)
    next_prepare f s votes =
        if nat_lt s.prepared s.signed
        then where_enough f votes s.prepared (prepares s.view (take (suc s.prepared) s.accepted)) (slice_get s.accepted s.prepared)
        else None

    module _ (goes : List V → V → Bool) (f : ℕ) where
      abbrev pub executes_at : List (SlotVote X) → ℕ → List V → Option V → Option (Step V X)
      executes_at commits v executed None = None
      executes_at commits v executed (Some value) =
          if is_enough same f commits (length executed) (digest value) && goes executed value then Some (executes v (length executed) value) else None

      -- the slot after the executed ones, where it is prepared, enough COMMITs are there and its value may follow
      abbrev pub next_execute : State V → List (SlotVote X) → Option (Step V X)
      next_execute s commits =
          if nat_lt (length s.executed) s.prepared
          then executes_at commits s.view s.executed (slice_get s.accepted (length s.executed))
          else None

      -- the first of the three that applies
      abbrev pub next : State V → List (SlotVote X) → List (SlotVote X) → Option (Step V X)
      next s votes commits = or_else (next_sign s) (or_else (next_prepare f s votes) (next_execute s commits))

  abbrev pub keep_commit : ℕ → ℕ → Option V → List (SlotVote X) → List (SlotVote X)
  keep_commit me n None commits = commits
  keep_commit me n (Some value) commits = keep (record { by = me; slot = n; x = digest value }) commits

  -- its own COMMITs, and its own PREPAREs, are kept as it makes them
  abbrev pub commits_after : ℕ → Step V X → List (SlotVote X) → List (SlotVote X)
  commits_after me (accepts n value) commits = commits
  commits_after me (signs v n x) commits = commits
  commits_after me (prepares v h) commits = keep_commit me (pred (length h)) (slice_get h (pred (length h))) commits
  commits_after me (changes w entries) commits = []
  commits_after me (enters w vcs chosen) commits = commits
  commits_after me (executes v n value) commits = commits

abbrev pub votes_after : {V X : Type 0} → ℕ → Step V X → List (SlotVote X) → List (SlotVote X)
votes_after me (accepts n value) votes = votes
votes_after me (signs v n x) votes = keep (record { by = me; slot = n; x = x }) votes
votes_after me (prepares v h) votes = votes
votes_after me (changes w entries) votes = []
votes_after me (enters w vcs chosen) votes = votes
votes_after me (executes v n value) votes = votes

module _ {V X : Type 0} (digest : V → X) (same : X → X → Bool) (goes : List V → V → Bool) (f me : ℕ) where
  abbrev pub onward : (State V → List (SlotVote X) → List (SlotVote X) → List (Step V X)) → State V → List (SlotVote X) → List (SlotVote X) → Option (Step V X) → List (Step V X)
  onward rest s votes commits None = []
  onward rest s votes commits (Some step) = rest (after s step) (votes_after me step votes) (commits_after digest me step commits) ++ (step ∷ [])

  -- the steps that it goes on with, at most n of them, the newest first
  abbrev pub settled : ℕ → State V → List (SlotVote X) → List (SlotVote X) → List (Step V X)
  settled zero s votes commits = []
  settled (suc n) s votes commits = onward (settled n) s votes commits (next digest same goes f s votes commits)
