-- How a replica leaves a view and enters one, from the VIEW-CHANGEs that it keeps.
use Rattle.std.specs.Prelude.{ℕ, zero, suc, Bool, ◌==◌, if◌then◌else◌, Option, Some, None, List, [], ◌∷◌, take, map, nat_lt, ◌<◌, Contains}
use Rattle.ab_lock.specs.Quorums.{quorum}
use Rattle.ab_lock.specs.Steps.{Cert, Change, Step, changes, enters, State, cert_at, entry_of}
use Rattle.ab_lock.specs.Choosing.{chosen_of}

-- a VIEW-CHANGE with its view
pub record Kept (V : Type 0) : Type 0 where
  pub view : ℕ
  pub change : Change V

module _ {V : Type 0} where
  abbrev pub cert_then : List (Cert V) → Option (Cert V) → List (Cert V)
  cert_then rest None = []
  cert_then rest (Some c) = c ∷ rest

  -- the certificates of slots from t upwards, at most n
  abbrev pub certs_from : (ℕ → Option (Cert V)) → ℕ → ℕ → List (Cert V)
  certs_from certs zero t = []
  certs_from certs (suc n) t = cert_then (certs_from certs n (suc t)) (certs t)

  -- the kept ones for view w, the lowest replica's first where the kept ones are in that order
  abbrev pub of_view : List (Kept V) → ℕ → List (Change V)
  of_view [] w = []
  of_view (u ∷ kept) w = if u.view == w then u.change ∷ of_view kept w else of_view kept w

-- leaving for view w, and the replica's own VIEW-CHANGE
abbrev pub leave : {V X : Type 0} → (V → X) → ℕ → State V → ℕ → Step V X
leave digest k s w = changes w (map (entry_of digest) (certs_from (cert_at s.certs) (suc k) 0))

abbrev pub own_change : {V : Type 0} → ℕ → ℕ → State V → Change V
own_change k me s = record { by = me; certs = certs_from (cert_at s.certs) (suc k) 0 }

-- entering the view from these VIEW-CHANGEs
abbrev pub enter : {V X : Type 0} → (List V → V → Bool) → ℕ → ℕ → List (Change V) → Step V X
enter goes k w vcs = enters w vcs (chosen_of goes k vcs)

-- the lowest 2f + 1 of the kept ones for w
abbrev pub lowest : {V : Type 0} → ℕ → List (Kept V) → ℕ → List (Change V)
lowest f kept w = take (quorum f) (of_view kept w)

-- a VIEW-CHANGE is kept by ascending replica, if it is of a higher view than the kept one of that replica
abbrev pub put : {V : Type 0} → Kept V → List (Kept V) → List (Kept V)
put u [] = u ∷ []
put u (w ∷ kept) =
    if nat_lt u.change.by w.change.by
    then u ∷ w ∷ kept
    else (if u.change.by == w.change.by then (if nat_lt w.view u.view then u else w) ∷ kept else w ∷ put u kept)

-- the replicas rise
abbrev pub IsRising : {V : Type 0} → List (Kept V) → Type 0
IsRising [] = Unit {0}
IsRising {V} (u ∷ kept) = ((w : Kept V) → Contains kept w → u.change.by < w.change.by) × IsRising kept
