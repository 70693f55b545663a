-- The acts of correct replicas in one instance, with what they claim of others.
use Rattle.std.specs.Prelude.{◌≡◌, ℕ, suc, pred, Bool, false, ◌==◌, if◌then◌else◌, Option, Some, None, List, [], ◌∷◌, ◌++◌, length, slice_get, Contains, map}
use Rattle.ab_num.specs.declared.party.Party.{Party}
use Rattle.ab_num.specs.declared.party.Party.TheVariants.{Replica}
use Rattle.ab_abs.specs.Faults.{is_faulty}
use Rattle.ab_lock.specs.Steps.{Cert, SlotEntry, Change, Step, accepts, signs, prepares, changes, enters, executes, entry_of, Follows}
use Rattle.ab_lock.specs.Quorums.{quorum, IsOlder, AreReplicas}

-- what a replica signs or tags
pub data LockContent (X : Type 0) : Type 0 where
  Prepare : ℕ → ℕ → ℕ → X → LockContent X
  Commit : ℕ → ℕ → ℕ → X → LockContent X
  ViewChange : ℕ → ℕ → List (SlotEntry X) → LockContent X

abbrev pub maker_of : {X : Type 0} → LockContent X → ℕ
maker_of (Prepare r v n x) = r
maker_of (Commit r v n x) = r
maker_of (ViewChange r w entries) = r

-- one event of a correct replica: what others said in the message that it took, and the steps that it
-- made, the newest first
pub record LockAct (V X : Type 0) : Type 0 where
  pub by : ℕ
  pub claims : List (LockContent X)
  pub steps : List (Step V X)

abbrev pub steps_of : {V X : Type 0} → List (LockAct V X) → ℕ → List (Step V X)
steps_of [] r = []
steps_of (a ∷ acts) r = if a.by == r then a.steps ++ steps_of acts r else steps_of acts r

module _ {V X : Type 0} (digest : V → X) where
  abbrev pub commit_of : ℕ → ℕ → ℕ → Option V → List (LockContent X)
  commit_of r v n None = []
  commit_of r v n (Some value) = Commit r v n (digest value) ∷ []

  -- what replica r signs or tags by a step
  abbrev pub made : ℕ → Step V X → List (LockContent X)
  made r (accepts n value) = []
  made r (signs v n x) = Prepare r v n x ∷ []
  made r (prepares v h) = commit_of r v (pred (length h)) (slice_get h (pred (length h)))
  made r (changes w entries) = ViewChange r w entries ∷ []
  made r (enters w vcs chosen) = []
  made r (executes v n value) = []

  -- some act made this content
  pub record WasMade (acts : List (LockAct V X)) (c : LockContent X) : Type 0 where
    pub act : LockAct V X
    pub is_in : Contains acts act
    pub step : Step V X
    pub is_step : Contains act.steps step
    pub makes : Contains (made act.by step) c

  -- r took it in some message, or it was made in these acts
  pub data Knows (acts : List (LockAct V X)) (r : ℕ) (c : LockContent X) : Type 0 where
    taken : (a : LockAct V X) → Contains acts a → a.by ≡ r → Contains a.claims c → Knows acts r c
    its_own : WasMade acts c → Knows acts r c

  -- each claim of a correct replica was made before
  abbrev pub IsHonest : List Party → List (LockAct V X) → Type 0
  IsHonest faulty [] = Unit {0}
  IsHonest faulty (a ∷ acts) =
      ((c : LockContent X) → Contains a.claims c → is_faulty faulty (Replica (maker_of c)) ≡ false → WasMade acts c) × IsHonest faulty acts

  module _ (f : ℕ) where
    -- 2f + 1 replicas of whom r knows what they signed
    pub record KnowsQuorum (acts : List (LockAct V X)) (r : ℕ) (what : ℕ → LockContent X) : Type 0 where
      pub by : List ℕ
      pub replicas : AreReplicas f by
      pub enough : length by ≡ quorum f
      pub each : (q : ℕ) → Contains by q → Knows acts r (what q)

    -- 2f + 1 VIEW-CHANGEs for w, and 2f + 1 PREPAREs of a lower view for each certificate in them
    pub record KnowsChanges (acts : List (LockAct V X)) (r w : ℕ) (vcs : List (Change V)) : Type 0 where
      pub replicas : AreReplicas f (map (λ c. c.by) vcs)
      pub enough : length vcs ≡ quorum f
      pub signed : (c : Change V) → Contains vcs c → Knows acts r (ViewChange c.by w (map (entry_of digest) c.certs))
      pub fits : (c : Change V) → Contains vcs c → (t : ℕ) (cert : Cert V) → slice_get c.certs t ≡ Some cert
          → IsOlder cert.at w × KnowsQuorum acts r (λ q. Prepare q cert.at t (digest cert.value))

    module _ (Source : ℕ → V → Type 0) where
      -- what r must know for a step
      abbrev pub Backs : List (LockAct V X) → ℕ → Step V X → Type 0
      Backs acts r (accepts n value) = Source n value
      Backs acts r (signs v n x) = Unit {0}
      Backs acts r (prepares v h) = (n : ℕ) (value : V) → length h ≡ suc n → slice_get h n ≡ Some value → KnowsQuorum acts r (λ q. Prepare q v n (digest value))
      Backs acts r (changes w entries) = Unit {0}
      Backs acts r (enters w vcs chosen) = KnowsChanges acts r w vcs
      Backs acts r (executes v n value) = KnowsQuorum acts r (λ q. Commit q v n (digest value))

      module _ (goes : List V → V → Bool) (k : ℕ) where
        -- each act goes on from the replica's earlier ones, and knows what it rests on
        abbrev pub AreLawful : List (LockAct V X) → Type 0
        AreLawful [] = Unit {0}
        AreLawful (a ∷ acts) =
            Follows digest goes k (a.steps ++ steps_of acts a.by)
            × ((step : Step V X) → Contains a.steps step → Backs (a ∷ acts) a.by step)
            × AreLawful acts
