-- CHECKPOINTs among the acts of an instance. A function tells which contents count as such: mark r n d is the content by which replica r says
-- that the first n entries of its log have the digest d.
use Rattle.std.specs.Prelude.{◌≡◌, ◌⊎◌, ℕ, ◌+◌, ◌*◌, ◌<◌, ◌≤◌, Bool, false, Some, List, [], ◌∷◌, Contains, length, take}
use mathlib.Core.List.{IsPrefix}
use Rattle.ab_num.specs.declared.party.Party.TheVariants.{Replica}
use Rattle.ab_hist.specs.declared.request.Request.{Request}
use Rattle.ab_msg.specs.declared.content.Content.{Content}
use Rattle.ab_msg.specs.Claims.{maker_of}
use Rattle.ab_abs.specs.Acts.{Setting, State, Act, WasMade, IsHonest, state_of, log_of}
use Rattle.ab_abs.specs.OrderRules.{WasClaimed}
use Rattle.ab_stable.specs.Stable.{HasFront}
use Rattle.ab_stable.specs.Leaving.{Leaves}
use Rattle.ab_stable.specs.CertActs.{faulty_in}

-- each that was made is of the log that its replica then had
abbrev pub AreMarked : (ℕ → ℕ → List ℕ → Content) → List Act → Type 0
AreMarked mark [] = Unit {0}
AreMarked mark (a ∷ acts) =
    ((r n : ℕ) (d : List ℕ) → Contains a.made (mark r n d) → (s : State) × (state_of (a ∷ acts) r ≡ Some s) × HasFront s.log n d) × AreMarked mark acts

-- the acts of an instance with those by which replicas make CHECKPOINTs and forget. Sound says what the acts of its protocol keep
pub record AreActsWithMarks (Sound : List Act → Type 0) (x : Setting) (is_mark : Content → Bool) (mark : ℕ → ℕ → List ℕ → Content) (acts : List Act) : Type 0 where
  pub bare : List Act
  pub left : Leaves is_mark acts bare
  pub sound : Sound bare
  pub honest : IsHonest x acts
  pub owned : (r n : ℕ) (d : List ℕ) → maker_of (mark r n d) ≡ Replica r
  pub marked : AreMarked mark acts

-- the CHECKPOINT of each replica is there: a correct party checked it, or its replica made it
abbrev pub AreAllThere : Setting → (ℕ → ℕ → List ℕ → Content) → List Act → ℕ → List ℕ → Type 0
AreAllThere x mark acts n d = (r : ℕ) → r < 3 * x.cluster.f + 1 → WasClaimed acts (mark r n d) ⊎ WasMade acts (mark r n d)

-- each correct replica's log has n entries of the digest d, and they begin the log of each correct one
abbrev pub BeginsAll : Setting → List Act → ℕ → List ℕ → Type 0
BeginsAll x acts n d =
    (r s : ℕ) → r < 3 * x.cluster.f + 1 → s < 3 * x.cluster.f + 1 → faulty_in x r ≡ false → faulty_in x s ≡ false
    → HasFront (log_of acts r) n d × IsPrefix (take n (log_of acts r)) (log_of acts s)

-- the entries of which each replica's CHECKPOINT is there, as some correct replica has them
pub record IsStable (x : Setting) (mark : ℕ → ℕ → List ℕ → Content) (acts : List Act) (front : List Request) : Type 0 where
  pub number : ℕ
  pub digest : List ℕ
  pub all : AreAllThere x mark acts number digest
  pub holder : ℕ
  pub within : holder < 3 * x.cluster.f + 1
  pub correct : faulty_in x holder ≡ false
  pub reaches : number ≤ length (log_of acts holder)
  pub is_front : front ≡ take number (log_of acts holder)
