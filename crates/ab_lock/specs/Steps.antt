-- What a correct replica does in PBFT, one step at a time, on plain values.
use Rattle.std.specs.Prelude.{◌≡◌, ℕ, zero, suc, pred, ◌<◌, ◌≤◌, ◌⊎◌, Bool, true, false, Option, Some, None, List, [], ◌∷◌, ◌++◌, length, take, slice_get, Contains}

-- a value of a slot that 2f + 1 PREPAREs of a view back
pub record Cert (V : Type 0) : Type 0 where
  pub at : ℕ
  pub value : V

-- what a VIEW-CHANGE signs of a slot
pub record SlotEntry (X : Type 0) : Type 0 where
  pub at : ℕ
  pub x : X

-- a VIEW-CHANGE with the values that came beside its signed list
pub record Change (V : Type 0) : Type 0 where
  pub by : ℕ
  pub certs : List (Cert V)

-- a value is accepted in a slot; a PREPARE of view and slot is signed; the values of the slots up to one are
-- prepared in a view; a VIEW-CHANGE is signed; a view is entered from VIEW-CHANGEs; a slot is executed
pub data Step (V X : Type 0) : Type 0 where
  accepts : ℕ → V → Step V X
  signs : ℕ → ℕ → X → Step V X
  prepares : ℕ → List V → Step V X
  changes : ℕ → List (SlotEntry X) → Step V X
  enters : ℕ → List (Change V) → List V → Step V X
  executes : ℕ → ℕ → V → Step V X

-- the signed slots of this view are those below signed, the prepared ones those below prepared;
-- certs has for each slot the certificate of the highest view, None for one that has none
pub record State (V : Type 0) : Type 0 where
  pub view : ℕ
  pub changing : Bool
  pub accepted : List V
  pub signed : ℕ
  pub prepared : ℕ
  pub certs : List (Option (Cert V))
  pub executed : List V

abbrev pub begun : {V : Type 0} → State V
begun = record { view = 0; changing = false; accepted = []; signed = 0; prepared = 0; certs = []; executed = [] }

abbrev pub cert_at : {V : Type 0} → List (Option (Cert V)) → ℕ → Option (Cert V)
cert_at [] t = None
cert_at (c ∷ certs) zero = c
cert_at (c ∷ certs) (suc t) = cert_at certs t

abbrev pub set_cert : {V : Type 0} → ℕ → Cert V → List (Option (Cert V)) → List (Option (Cert V))
set_cert zero c [] = Some c ∷ []
set_cert zero c (d ∷ certs) = Some c ∷ certs
set_cert (suc t) c [] = None ∷ set_cert t c []
set_cert (suc t) c (d ∷ certs) = d ∷ set_cert t c certs

abbrev pub set_value : {V : Type 0} → ℕ → ℕ → Option V → List (Option (Cert V)) → List (Option (Cert V))
set_value v t None certs = certs
set_value v t (Some value) certs = set_cert t (record { at = v; value = value }) certs

-- the certificates once the last of h is prepared in v
abbrev pub with_cert : {V : Type 0} → ℕ → List V → List (Option (Cert V)) → List (Option (Cert V))
with_cert v h certs = set_value v (pred (length h)) (slice_get h (pred (length h))) certs

abbrev pub after : {V X : Type 0} → State V → Step V X → State V
after s (accepts n value) = record s { accepted = s.accepted ++ (value ∷ []) }
after s (signs v n x) = record s { signed = suc n }
after s (prepares v h) = record s { prepared = length h; certs = with_cert v h s.certs }
after s (changes w entries) = record s { view = w; changing = true; accepted = []; signed = 0; prepared = 0 }
after s (enters w vcs chosen) = record s { view = w; changing = false; accepted = chosen; signed = 0; prepared = 0 }
after s (executes v n value) = record s { executed = s.executed ++ (value ∷ []) }

-- where a replica is after its steps, the newest first
abbrev pub state_of : {V X : Type 0} → List (Step V X) → State V
state_of [] = begun
state_of (step ∷ steps) = after (state_of steps) step

-- of the certificates for slot t in these VIEW-CHANGEs one of the highest view has this value
pub record IsBest {V : Type 0} (vcs : List (Change V)) (t : ℕ) (value : V) : Type 0 where
  pub change : Change V
  pub is_in : Contains vcs change
  pub cert : Cert V
  pub stands : slice_get change.certs t ≡ Some cert
  pub value_is : cert.value ≡ value
  pub highest : (other : Change V) → Contains vcs other → (c : Cert V) → slice_get other.certs t ≡ Some c → c.at ≤ cert.at

module _ {V X : Type 0} (digest : V → X) where
  abbrev pub entry_of : Cert V → SlotEntry X
  entry_of c = record { at = c.at; x = digest c.value }

  -- slot n of h has digest x
  abbrev pub IsAt : List V → ℕ → X → Type 0
  IsAt h n x = (value : V) × (slice_get h n ≡ Some value) × (digest value ≡ x)

  -- the entries are the certificates of slots 0 upwards, to the first that has none
  pub record Lists (certs : ℕ → Option (Cert V)) (entries : List (SlotEntry X)) : Type 0 where
    pub each : (t : ℕ) (e : SlotEntry X) → slice_get entries t ≡ Some e → (c : Cert V) × (certs t ≡ Some c) × (e ≡ entry_of c)
    pub ends : certs (length entries) ≡ None

module _ {V : Type 0} (goes : List V → V → Bool) (k : ℕ) where
  -- why the chosen values end
  pub data Ends (vcs : List (Change V)) (chosen : List V) : Type 0 where
    full : length chosen ≡ suc k → Ends vcs chosen
    none : ((other : Change V) → Contains vcs other → slice_get other.certs (length chosen) ≡ None) → Ends vcs chosen
    unfit : (value : V) → IsBest vcs (length chosen) value → goes chosen value ≡ false → Ends vcs chosen

  pub record IsChosen (vcs : List (Change V)) (chosen : List V) : Type 0 where
    pub best : (t : ℕ) (value : V) → slice_get chosen t ≡ Some value → IsBest vcs t value
    pub fits : (t : ℕ) (value : V) → slice_get chosen t ≡ Some value → goes (take t chosen) value ≡ true
    pub within : length chosen ≤ suc k
    pub ends : Ends vcs chosen

module _ {V X : Type 0} (digest : V → X) (goes : List V → V → Bool) (k : ℕ) where
  -- a replica may take a step
  abbrev pub Can : State V → Step V X → Type 0
  Can s (accepts n value) = (s.changing ≡ false) × (length s.accepted ≤ k) × (goes s.accepted value ≡ true) × (n ≡ length s.accepted)
  Can s (signs v n x) = (v ≡ s.view) × (n ≡ s.signed) × (s.signed ≡ s.prepared) × IsAt digest s.accepted n x
  Can s (prepares v h) = (v ≡ s.view) × (s.prepared < s.signed) × (h ≡ take (suc s.prepared) s.accepted)
  Can s (changes w entries) = (s.view < w) × Lists digest (cert_at s.certs) entries
  Can s (enters w vcs chosen) = ((s.view < w) ⊎ ((s.view ≡ w) × (s.changing ≡ true))) × IsChosen goes k vcs chosen
  Can s (executes v n value) =
      (v ≡ s.view) × (n ≡ length s.executed) × (n < s.prepared) × (slice_get s.accepted n ≡ Some value)

  abbrev pub Follows : List (Step V X) → Type 0
  Follows [] = Unit {0}
  Follows (step ∷ steps) = Can (state_of steps) step × Follows steps
