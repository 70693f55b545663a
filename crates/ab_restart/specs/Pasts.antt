-- The journal of a node's text: a first body that names the text, and then the events of its party.
use Rattle.std.specs.Prelude.{◌≡◌, ◌≢◌, ◌⊎◌, ℕ, ◌+◌, List, [], ◌∷◌, Result, Ok, Err}
use Rattle.ab_disk.specs.Disks.{DiskModel, LeavesOnly, Outcomes}
use Rattle.ab_journal.specs.Journals.{Lists}
use Rattle.ab_loop.specs.Cores.{NodeEvent}
use Rattle.ab_loop.specs.Past.{IsFirstForeign, Spell}
use Rattle.ab_mac.specs.Digests.{marked}

abbrev pub first_body : List ℕ → List ℕ
first_body text = 0 ∷ marked 10 text

-- the events that a journal with this first body spells
abbrev pub IsPast : List ℕ → List (List ℕ) → List NodeEvent → Type 0
IsPast first [] events = events ≡ []
IsPast first (body ∷ bodies) events = (body ≡ first) × Spell bodies events

-- entry n, from 1, is the first that such a journal can't have
abbrev pub IsForeign : List ℕ → List (List ℕ) → ℕ → Type 0
IsForeign first [] n = ⊥
IsForeign first (body ∷ bodies) n = ((body ≢ first) × (n ≡ 1)) ⊎ ((body ≡ first) × (k : ℕ) × IsFirstForeign bodies k × (n ≡ k + 1))

-- an empty journal gets its first body
abbrev pub begun : List ℕ → List (List ℕ) → List (List ℕ)
begun first [] = first ∷ []
begun first (body ∷ bodies) = body ∷ bodies

-- a file with this list, or with that of the journal that has its first body
abbrev pub ListsOrBegun : List ℕ → List (List ℕ) → Outcomes
ListsOrBegun first bodies c = Lists bodies c ⊎ Lists (begun first bodies) c

-- Up to a moment, at which all was synced, a crash leaves what it might have left at first, and from then on such a file.
pub record HasResumed {D : Type 0} (m : DiskModel D) (old new : D) (first : List ℕ) (bodies : List (List ℕ)) : Type 0 where
  pub synced : D
  pub before : LeavesOnly m old synced (m.may_leave old)
  pub after : LeavesOnly m synced new (ListsOrBegun first bodies)

-- where it was refused, that sync may not have been done
abbrev pub Resumes : {D T E : Type 0} → DiskModel D → D → D → List ℕ → List (List ℕ) → Result T E → Type 0
Resumes m old new first bodies (Ok t) = HasResumed m old new first bodies
Resumes m old new first bodies (Err e) = HasResumed m old new first bodies ⊎ LeavesOnly m old new (m.may_leave old)
