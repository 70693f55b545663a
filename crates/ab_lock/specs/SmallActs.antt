-- A replica that is a cluster by itself: it prepares 7 in view 0, goes to view 1, and executes 7 there.
use Rattle.std.specs.Prelude.{ℕ, Bool, true, List, [], ◌∷◌}
use Rattle.ab_lock.specs.Steps.{Cert, Change, Step, accepts, signs, prepares, changes, enters, executes}
use Rattle.ab_lock.specs.Acts.{LockAct}

abbrev pub digest : ℕ → ℕ
digest value = value

abbrev pub goes : List ℕ → ℕ → Bool
goes h value = true

abbrev pub may_stand : ℕ → ℕ → Bool
may_stand n value = true

abbrev pub cert : Cert ℕ
cert = record { at = 0; value = 7 }

abbrev pub change : Change ℕ
change = record { by = 0; certs = cert ∷ [] }

abbrev pub first_view : List (Step ℕ ℕ)
first_view = prepares 0 (7 ∷ []) ∷ signs 0 0 7 ∷ accepts 0 7 ∷ []

abbrev pub second_view : List (Step ℕ ℕ)
second_view = executes 1 0 7 ∷ prepares 1 (7 ∷ []) ∷ signs 1 0 7 ∷ enters 1 (change ∷ []) (7 ∷ []) ∷ changes 1 (record { at = 0; x = 7 } ∷ []) ∷ first_view

abbrev pub small_acts : List (LockAct ℕ ℕ)
small_acts = record { by = 0; claims = []; steps = second_view } ∷ []
