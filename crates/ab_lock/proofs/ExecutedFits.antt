-- What a replica executes can always follow what it executed before.
use Rattle.std.proofs.Common.{◌≡◌, ℕ, ◌<◌, ◌≤◌, Bool, true, Some, List, [], ◌∷◌, length, take, slice_get, sym, ap, ◌∙◌, arith}
use Rattle.std.specs.Prelude.{Contains}
use Rattle.std.proofs.lemmas.Option.{none-some}
use Rattle.ab_num.specs.declared.party.Party.{Party}
use Rattle.ab_lock.specs.Steps.{Step, accepts, signs, prepares, changes, enters, executes, state_of, Follows}
use Rattle.ab_lock.specs.Quorums.{IsCorrect, in_prepared, in_executed, TracePremises}
use Rattle.ab_hist.proofs.KeptLemmas.{slice_get-take}
use Rattle.ab_lock.proofs.Lists.{nth_same}
use Rattle.std.proofs.lemmas.List.{length-take-le}
use Rattle.ab_num.proofs.Lists.{Contains-tail, slice_get_there}
use Rattle.ab_lock.proofs.Consistent.{Fit, Fit-grown, consistent}
use Rattle.ab_lock.proofs.Traces.{views_below, executed_step, prepared_now}
use Rattle.ab_lock.proofs.Locks.{certified_of}
use Rattle.ab_lock.proofs.Executed.{lock, committed_prepared}

module _ {V X : Type 0} (digest : V → X) (f : ℕ) (faulty : List Party) (traces : ℕ → List (Step V X)) (Source : ℕ → V → Type 0) (goes : List V → V → Bool) (k : ℕ) (p : TracePremises digest f faulty traces Source goes k) (r : ℕ) (ok : IsCorrect f faulty r) where
  -- these steps are among the replica's
  abbrev AreIts : List (Step V X) → Type 0
  AreIts steps = (step : Step V X) → Contains steps step → Contains (traces r) step

  its_tail : (step : Step V X) (steps : List (Step V X)) → AreIts (step ∷ steps) → AreIts steps
  its_tail step steps its other is = its other (Contains-tail step other steps is)

  -- what is prepared in a slot that was executed is what was executed
  executed_prepared : (steps : List (Step V X)) → Follows digest goes k steps → AreIts steps → (t : ℕ) (a b : V) → t < (state_of steps).prepared
      → slice_get (state_of steps).executed t ≡ Some a → slice_get (state_of steps).accepted t ≡ Some b → a ≡ b
  executed_prepared steps lawful its t a b lt is_a is_b =
      let one = executed_step digest goes k steps lawful t a is_a in
      let le : one.0 ≤ (state_of steps).view = views_below digest goes k steps (executes one.0 t a) lawful one.1 in
      let two = prepared_now digest goes k (λ u n z. (h : List V) × Contains steps (prepares u h) × (slice_get h n ≡ Some z)) steps lawful (λ u h is n z len at. (h, is, at)) t b lt is_b in
      let there = its (executes one.0 t a) one.1 in
      let also = its (prepares (state_of steps).view two.0) two.1 in
      let same : digest b ≡ digest a =
      lock digest f faulty traces Source goes k p one.0 t (digest a) (committed_prepared digest f faulty traces Source goes k p one.0 t (digest a) (p.rests r ok (executes one.0 t a) there))
      (state_of steps).view le (digest b) (certified_of digest f faulty traces Source goes k p r (state_of steps).view two.0 ok also t b two.2) in
      sym (p.apart t b a (in_prepared r (state_of steps).view two.0 ok also two.2) (in_executed r one.0 ok there) same)

  -- so the values executed so far are the first accepted ones, and the next one may follow them
  pub may_follow : (steps : List (Step V X)) → Follows digest goes k steps → AreIts steps → (value : V) → length (state_of steps).executed < (state_of steps).prepared
      → slice_get (state_of steps).accepted (length (state_of steps).executed) ≡ Some value → goes (state_of steps).executed value ≡ true
  may_follow steps lawful its value lt is =
      let s = consistent digest goes k steps lawful in
      let e = (state_of steps).executed in
      let len : length (take (length (state_of steps).executed) (state_of steps).accepted) ≡ length (state_of steps).executed =
      length-take-le (length (state_of steps).executed) (state_of steps).accepted (omega (arith, lt, s.in_order, s.of_accepted)) in
      let front : (state_of steps).executed ≡ take (length (state_of steps).executed) (state_of steps).accepted =
      nth_same (state_of steps).executed (take (length (state_of steps).executed) (state_of steps).accepted) (sym len) (λ t in_e.
      let a = slice_get_there (state_of steps).executed t in_e in
      let b = slice_get_there (state_of steps).accepted t (omega (arith, in_e, lt, s.in_order, s.of_accepted)) in
      let same = executed_prepared steps lawful its t a.0 b.0 (omega (arith, in_e, lt)) a.1 b.1 in
      a.1 ∙ (ap Some same ∙ (sym b.1 ∙ sym (slice_get-take (length (state_of steps).executed) (state_of steps).accepted t in_e)))) in
      ap (λ l. goes l value) front ∙ s.fit (length (state_of steps).executed) value is

  executed_fit : (steps : List (Step V X)) → Follows digest goes k steps → AreIts steps → Fit digest goes k (state_of steps).executed
  executed_fit [] lawful its = λ t value e. absurd (none-some value e)
  executed_fit (accepts n value ∷ steps) lawful its = executed_fit steps lawful.1 (its_tail _ steps its)
  executed_fit (signs v n x ∷ steps) lawful its = executed_fit steps lawful.1 (its_tail _ steps its)
  executed_fit (prepares v h ∷ steps) lawful its = executed_fit steps lawful.1 (its_tail _ steps its)
  executed_fit (changes w entries ∷ steps) lawful its = executed_fit steps lawful.1 (its_tail _ steps its)
  executed_fit (enters w vcs chosen ∷ steps) lawful its = executed_fit steps lawful.1 (its_tail _ steps its)
  executed_fit (executes v n value ∷ steps) lawful its =
      let can = lawful.0 in
      let lt : length (state_of steps).executed < (state_of steps).prepared = omega (arith, can.1, can.2) in
      Fit-grown digest goes k (state_of steps).executed value (executed_fit steps lawful.1 (its_tail _ steps its))
      (may_follow steps lawful.1 (its_tail _ steps its) value lt (ap (slice_get (state_of steps).accepted) (sym can.1) ∙ can.3))

  -- each executed value may follow those before it
  pub executed_fits : Fit digest goes k (state_of (traces r)).executed
  executed_fits = executed_fit (traces r) (p.follows r ok) (λ step is. is)
