-- What the steps of the correct replicas of one instance rest on.
use Rattle.std.specs.Prelude.{◌≡◌, ℕ, suc, ◌+◌, ◌*◌, ◌<◌, ◌≤◌, Bool, false, nat_eq, Some, List, length, slice_get, Contains, map, count_by}
use Rattle.std.specs.List.{IsDistinct}
use Rattle.ab_num.specs.declared.party.Party.{Party}
use Rattle.ab_num.specs.declared.party.Party.TheVariants.{Replica}
use Rattle.ab_abs.specs.Faults.{is_faulty}
use Rattle.ab_msg.specs.Carried.{is_replica}
use Rattle.ab_lock.specs.Steps.{Cert, Change, Step, accepts, signs, prepares, changes, enters, executes, entry_of, IsAt, Follows}

-- so many replicas of 3f + 1 that of two such sets f + 1 stand in both
abbrev pub quorum : ℕ → ℕ
quorum f = 2 * f + 1

-- a certificate of this view may stand in a VIEW-CHANGE for view w
abbrev pub IsOlder : ℕ → ℕ → Type 0
IsOlder at w = at < w

-- distinct replicas of a cluster
pub record AreReplicas (f : ℕ) (by : List ℕ) : Type 0 where
  pub distinct : IsDistinct nat_eq by
  pub within : (r : ℕ) → Contains by r → r < 3 * f + 1

abbrev pub IsCorrect : ℕ → List Party → ℕ → Type 0
IsCorrect f faulty r = (r < 3 * f + 1) × (is_faulty faulty (Replica r) ≡ false)

module _ {V X : Type 0} (f : ℕ) (faulty : List Party) (traces : ℕ → List (Step V X)) where
  -- 2f + 1 PREPAREs of distinct replicas: those of correct ones were signed
  pub record IsCertified (v n : ℕ) (x : X) : Type 0 where
    pub by : List ℕ
    pub replicas : AreReplicas f by
    pub enough : length by ≡ quorum f
    pub signed : (r : ℕ) → Contains by r → IsCorrect f faulty r → Contains (traces r) (signs v n x)

  -- each certificate of view v or a later one for slot n has x
  abbrev pub Lock : ℕ → ℕ → X → Type 0
  Lock v n x = (w : ℕ) → v ≤ w → (y : X) → IsCertified w n y → y ≡ x

  -- the values of slot t whose digests are not to collide
  pub data Occurs (t : ℕ) (value : V) : Type 0 where
    in_accepted : (r : ℕ) → IsCorrect f faulty r → Contains (traces r) (accepts t value) → Occurs t value
    in_prepared : (r v : ℕ) (h : List V) → IsCorrect f faulty r → Contains (traces r) (prepares v h) → slice_get h t ≡ Some value → Occurs t value
    in_change : (r w : ℕ) (vcs : List (Change V)) (chosen : List V) (c : Change V) (cert : Cert V) → IsCorrect f faulty r → Contains (traces r) (enters w vcs chosen)
        → Contains vcs c → slice_get c.certs t ≡ Some cert → cert.value ≡ value → Occurs t value
    in_executed : (r v : ℕ) → IsCorrect f faulty r → Contains (traces r) (executes v t value) → Occurs t value

module _ {V X : Type 0} (digest : V → X) where
  -- r prepared x at slot n in view v
  pub record HasPrepared (traces : ℕ → List (Step V X)) (r v n : ℕ) (x : X) : Type 0 where
    pub values : List V
    pub is_in : Contains (traces r) (prepares v values)
    pub slot : length values ≡ suc n
    pub is_at : IsAt digest values n x

  module _ (f : ℕ) (faulty : List Party) (traces : ℕ → List (Step V X)) where
    -- f + 1 correct replicas prepared x at slot n in view v
    pub record IsCommitted (v n : ℕ) (x : X) : Type 0 where
      pub by : List ℕ
      pub replicas : AreReplicas f by
      pub enough : f + 1 ≤ length by
      pub each : (r : ℕ) → Contains by r → IsCorrect f faulty r × HasPrepared traces r v n x

    -- 2f + 1 COMMITs of distinct replicas, as one replica has them: a correct one commits where it prepared
    pub record IsCommittedLocally (v n : ℕ) (x : X) : Type 0 where
      pub by : List ℕ
      pub replicas : AreReplicas f by
      pub enough : length by ≡ quorum f
      pub prepared : (r : ℕ) → Contains by r → IsCorrect f faulty r → HasPrepared traces r v n x

    -- 2f + 1 VIEW-CHANGEs for w of distinct replicas, each of which fits
    pub record AreChanges (w : ℕ) (vcs : List (Change V)) : Type 0 where
      pub replicas : AreReplicas f (map (λ c. c.by) vcs)
      pub enough : length vcs ≡ quorum f
      pub signed : (c : Change V) → Contains vcs c → IsCorrect f faulty c.by → Contains (traces c.by) (changes w (map (entry_of digest) c.certs))
      pub fits : (c : Change V) → Contains vcs c → (t : ℕ) (cert : Cert V) → slice_get c.certs t ≡ Some cert → IsOlder cert.at w × IsCertified f faulty traces cert.at t (digest cert.value)

    -- no two different values of one slot have one digest
    abbrev pub NoCollision : Type 0
    NoCollision = (t : ℕ) (a b : V) → Occurs f faulty traces t a → Occurs f faulty traces t b → digest a ≡ digest b → a ≡ b

    module _ (Source : ℕ → V → Type 0) where
      -- what others signed and a step rests on
      abbrev pub RestsOn : Step V X → Type 0
      RestsOn (accepts n value) = Source n value
      RestsOn (signs v n x) = Unit {0}
      RestsOn (prepares v h) = (n : ℕ) (value : V) → length h ≡ suc n → slice_get h n ≡ Some value → IsCertified f faulty traces v n (digest value)
      RestsOn (changes w entries) = Unit {0}
      RestsOn (enters w vcs chosen) = AreChanges w vcs
      RestsOn (executes v n value) = IsCommittedLocally v n (digest value)

      -- goes says which value may follow which values, and k is the last slot
      pub record TracePremises (goes : List V → V → Bool) (k : ℕ) : Type 0 where
        pub few : count_by is_replica faulty ≤ f
        pub follows : (r : ℕ) → IsCorrect f faulty r → Follows digest goes k (traces r)
        pub rests : (r : ℕ) → IsCorrect f faulty r → (step : Step V X) → Contains (traces r) step → RestsOn step
        pub apart : NoCollision
