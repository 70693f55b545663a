-- A replica signs at most one PREPARE for each view and slot.
use Rattle.std.proofs.Common.{◌≡◌, ℕ, zero, suc, ◌<◌, Bool, Some, List, [], ◌∷◌, ◌⊎◌, slice_get, refl, sym, ap, subst, inl, inr, arith}
use Rattle.std.specs.Prelude.{Contains}
use Rattle.std.proofs.lemmas.Option.{none-some, same_Some}
use Rattle.ab_num.specs.declared.party.Party.{Party}
use Rattle.ab_num.proofs.Lists.{Contains-cons_cases, Contains-none}
use Rattle.ab_lock.specs.Steps.{Step, accepts, signs, prepares, changes, enters, executes, State, after, state_of, Can, Follows}
use Rattle.ab_lock.specs.Quorums.{IsCorrect, IsCommitted, HasPrepared}
use Rattle.ab_lock.specs.Acts.{LockAct, Prepare, steps_of, WasMade}
use Rattle.ab_lock.specs.Promises.{LockPremises}
use Rattle.ab_lock.proofs.ActLemmas.{steps_in, made_prepare, lawful_follows, premises_of}
use Rattle.ab_lock.proofs.Consistent.{IsConsistent, consistent, view_rises}
use Rattle.ab_lock.proofs.Executed.{lock}
use Rattle.ab_lock.proofs.Lists.{Contains-nth}
use Rattle.ab_lock.proofs.Locks.{certified_of}
use Rattle.ab_lock.proofs.Traces.{signs_once}
use Rattle.std.specs.Prelude.{IsTrue, ◌≤◌}

module _ {V X : Type 0} (digest : V → X) (goes : List V → V → Bool) (k : ℕ) where
  -- a signed PREPARE is of a lower view, or of a signed slot of this one
  abbrev IsPast : State V → ℕ → ℕ → Type 0
  IsPast s v n = (v < s.view) ⊎ ((v ≡ s.view) × (n < s.signed))

  past_after : (s : State V) (step : Step V X) (v n : ℕ) → IsConsistent digest goes k s → Can digest goes k s step → IsPast s v n → IsPast (after s step) v n
  past_after s step v n ok can (inl lower) = inl (omega (arith, lower, view_rises digest goes k s step can))
  past_after s (accepts m value) v n ok can (inr here) = inr here
  past_after s (signs w m y) v n ok can (inr here) = inr (here.0, omega (arith, here.1, can.1))
  past_after s (prepares w h) v n ok can (inr here) = inr here
  past_after s (changes w entries) v n ok can (inr here) = inl (omega (arith, here.0, can.0))
  past_after s (enters w vcs chosen) v n ok can (inr here) =
      elim can.0 [
        | inl above ↦ inl (omega (arith, here.0, above))
        | inr equal ↦ absurd (omega (arith, ok.quiet equal.1, here.1, ok.of_accepted))
      ]
  past_after s (executes w m value) v n ok can (inr here) = inr here

  past : (steps : List (Step V X)) (v n : ℕ) (x : X) → Follows digest goes k steps → Contains steps (signs v n x) → IsPast (state_of steps) v n
  past [] v n x lawful is = absurd (Contains-none _ is)
  past (last ∷ steps) v n x lawful is =
      elim (Contains-cons_cases last steps (signs v n x) is) [
        | inl e ↦
            let can = subst (λ (z : Step V X). Can digest goes k (state_of steps) z) e lawful.0 in
            subst (λ (z : Step V X). IsPast (after (state_of steps) z) v n) (sym e) (inr (can.0, omega arith))
        | inr more ↦ past_after (state_of steps) last v n (consistent digest goes k steps lawful.1) lawful.0 (past steps v n x lawful.1 more)
      ]

  -- the PREPARE that may be signed now is not signed yet
  new : (steps : List (Step V X)) (last : Step V X) (v n t : ℕ) (x y : X) → Follows digest goes k (last ∷ steps) → last ≡ signs v n x → slice_get steps t ≡ Some (signs v n y) → ⊥
  new steps last v n t x y lawful e there =
      let can = subst (λ (z : Step V X). Can digest goes k (state_of steps) z) e lawful.0 in
      elim (past steps v n y lawful.1 (Contains-nth steps t (signs v n y) there)) [
        | inl lower ↦ omega (arith, lower, can.0)
        | inr here ↦ omega (arith, here.1, can.1)
      ]

  pub one_place : (steps : List (Step V X)) (v n a b : ℕ) (x y : X) → Follows digest goes k steps → slice_get steps a ≡ Some (signs v n x) → slice_get steps b ≡ Some (signs v n y) → a ≡ b
  one_place [] v n a b x y lawful one two = absurd (none-some (signs v n x) one)
  one_place (last ∷ steps) v n zero zero x y lawful one two = refl
  one_place (last ∷ steps) v n zero (suc b) x y lawful one two = absurd (new steps last v n b x y lawful (same_Some last (signs v n x) one) two)
  one_place (last ∷ steps) v n (suc a) zero x y lawful one two = absurd (new steps last v n a y x lawful (same_Some last (signs v n y) two) one)
  one_place (last ∷ steps) v n (suc a) (suc b) x y lawful one two = ap suc (one_place steps v n a b x y lawful.1 one two)

module _ {V X : Type 0} (digest : V → X) (may_stand : ℕ → V → Bool) (goes : List V → V → Bool) (k f : ℕ) (faulty : List Party) (acts : List (LockAct V X)) (met : LockPremises digest may_stand goes k f faulty acts) where
  abbrev Source : ℕ → V → Type 0
  Source n value = IsTrue (may_stand n value)

  signed : (r v n : ℕ) (x : X) → WasMade digest acts (Prepare r v n x) → Contains (steps_of acts r) (signs v n x)
  signed r v n x was =
      let m = made_prepare digest was.act.by r v n x was.step was.makes in
      subst (λ (z : Step V X). Contains (steps_of acts r) z) m.1 (subst (λ (q : ℕ). Contains (steps_of acts q) was.step) m.0 (steps_in digest acts was.act was.step was.is_in was.is_step))

  pub one_prepare : (r v n : ℕ) (x y : X) → WasMade digest acts (Prepare r v n x) → WasMade digest acts (Prepare r v n y) → x ≡ y
  one_prepare r v n x y one two =
      signs_once digest goes k (steps_of acts r) v n x y (lawful_follows digest f Source goes k acts met.lawful r) (signed r v n x one) (signed r v n y two)

  pub prepared_lock : (v w n q : ℕ) (x y : X) → IsCommitted digest f faulty (steps_of acts) v n x → v ≤ w → IsCorrect f faulty q → HasPrepared digest (steps_of acts) q w n y → y ≡ x
  prepared_lock v w n q x y held le good was =
      let p = premises_of digest f faulty acts met.honest Source goes k met.few met.lawful met.apart in
      let cert = certified_of digest f faulty (steps_of acts) Source goes k p q w was.values good was.is_in n was.is_at.0 was.is_at.1 in
      subst (λ (z : X). z ≡ x) was.is_at.2 (lock digest f faulty (steps_of acts) Source goes k p v n x held w le (digest was.is_at.0) cert)
