-- Two of four replicas prepare 7 in slot 0 of view 0, with the PREPARE of a third, which is faulty.
use Rattle.std.specs.Prelude.{ℕ, List, [], ◌∷◌}
use Rattle.ab_num.specs.declared.party.Party.{Party}
use Rattle.ab_num.specs.declared.party.Party.TheVariants.{Replica}
use Rattle.ab_lock.specs.Steps.{Step, accepts, signs, prepares}
use Rattle.ab_lock.specs.Acts.{LockContent, Prepare, LockAct}

abbrev pub third_faulty : List Party
third_faulty = Replica 3 ∷ []

abbrev pub signed : List (Step ℕ ℕ)
signed = signs 0 0 7 ∷ accepts 0 7 ∷ []

abbrev pub signing : ℕ → LockAct ℕ ℕ
signing r = record { by = r; claims = []; steps = signed }

abbrev pub votes_of : ℕ → List (LockContent ℕ)
votes_of q = Prepare q 0 0 7 ∷ Prepare 3 0 0 7 ∷ []

-- replica r takes the PREPAREs of q and of the third
abbrev pub preparing : ℕ → ℕ → LockAct ℕ ℕ
preparing r q = record { by = r; claims = votes_of q; steps = prepares 0 (7 ∷ []) ∷ [] }

abbrev pub both_sign : List (LockAct ℕ ℕ)
both_sign = signing 1 ∷ signing 0 ∷ []

abbrev pub two_prepare : List (LockAct ℕ ℕ)
two_prepare = preparing 1 0 ∷ preparing 0 1 ∷ both_sign
