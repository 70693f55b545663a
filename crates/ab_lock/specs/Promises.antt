-- What PBFT promises over all views.
use Rattle.std.specs.Prelude.{◌≡◌, ◌⊎◌, ℕ, ◌≤◌, Bool, IsTrue, Some, List, slice_get, count_by}
use mathlib.Core.List.{IsPrefix}
use Rattle.ab_num.specs.declared.party.Party.{Party}
use Rattle.ab_msg.specs.Carried.{is_replica}
use Rattle.ab_lock.specs.Steps.{state_of}
use Rattle.ab_lock.specs.Quorums.{IsCorrect, IsCommitted, Lock, NoCollision}
use Rattle.ab_lock.specs.Acts.{LockAct, steps_of, IsHonest, AreLawful}

-- the acts of one instance whose values in slot n are those that may_stand n allows
pub record LockPremises {V X : Type 0} (digest : V → X) (may_stand : ℕ → V → Bool) (goes : List V → V → Bool) (k f : ℕ) (faulty : List Party) (acts : List (LockAct V X)) : Type 0 where
  pub few : count_by is_replica faulty ≤ f
  pub honest : IsHonest digest faulty acts
  pub lawful : AreLawful digest f (λ n value. IsTrue (may_stand n value)) goes k acts
  pub apart : NoCollision digest f faulty (steps_of acts)

abbrev pub executed_of : {V X : Type 0} → List (LockAct V X) → ℕ → List V
executed_of acts r = (state_of (steps_of acts r)).executed

module _ {V X : Type 0} (f : ℕ) (faulty : List Party) (acts : List (LockAct V X)) where
  -- what f + 1 correct replicas prepared in a slot, each certificate of that view or a later one has
  abbrev pub ViewsLock : (V → X) → Type 0
  ViewsLock digest = (v n : ℕ) (x : X) → IsCommitted digest f faulty (steps_of acts) v n x → Lock f faulty (steps_of acts) v n x

  abbrev pub ExecutedAgree : Type 0
  ExecutedAgree =
      (r q : ℕ) → IsCorrect f faulty r → IsCorrect f faulty q
      → IsPrefix (executed_of acts r) (executed_of acts q) ⊎ IsPrefix (executed_of acts q) (executed_of acts r)

  abbrev pub ExecutedMayStand : (ℕ → V → Bool) → Type 0
  ExecutedMayStand may_stand =
      (r : ℕ) → IsCorrect f faulty r → (n : ℕ) (value : V) → slice_get (executed_of acts r) n ≡ Some value → IsTrue (may_stand n value)
