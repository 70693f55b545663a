-- What holds of a replica at each of its steps.
use Rattle.std.proofs.Common.{◌≡◌, ℕ, suc, ◌<◌, ◌≤◌, ◌==◌, Bool, true, Some, Option, List, [], ◌∷◌, ◌++◌, length, take, slice_get, refl, ap, ◌∙◌, inl, inr, arith, length-append}
use Rattle.std.proofs.lemmas.Bool.{cases_Bool}
use Rattle.std.proofs.lemmas.Bool.Decides.{Decides-eqb}
use Rattle.std.proofs.lemmas.Option.{none-some, slice_get_within}
use Rattle.ab_lock.specs.Steps.{Cert, Step, accepts, signs, prepares, changes, enters, executes, State, cert_at, with_cert, after, state_of, Can, Follows}
use Rattle.ab_lock.proofs.Lists.{nth_grown}
use Rattle.ab_lock.proofs.CertLemmas.{with_cert-last, with_cert-other}
use Rattle.std.proofs.lemmas.List.{length-take-le, take-append-le}
use Rattle.std.proofs.Math.Seq.{take-length}
use Rattle.ab_num.proofs.Lists.{slice_get_there}

-- slot t has a certificate of view v or above
abbrev pub HasCert : {V : Type 0} → List (Option (Cert V)) → ℕ → ℕ → Type 0
HasCert {V} certs v t = (c : Cert V) × (cert_at certs t ≡ Some c) × (v ≤ c.at)

module _ {V X : Type 0} (digest : V → X) (goes : List V → V → Bool) (k : ℕ) where
  -- each value may follow those before it
  abbrev pub Fit : List V → Type 0
  Fit h = (t : ℕ) (value : V) → slice_get h t ≡ Some value → goes (take t h) value ≡ true

  pub record IsConsistent (s : State V) : Type 0 where
    pub in_order : s.prepared ≤ s.signed
    pub of_accepted : s.signed ≤ length s.accepted
    pub within : length s.accepted ≤ suc k
    pub quiet : s.changing ≡ true → length s.accepted ≡ 0
    pub above : s.changing ≡ true → 1 ≤ s.view
    pub fit : Fit s.accepted
    pub held : (t : ℕ) → t < s.prepared → HasCert s.certs s.view t

  pub Fit-grown : (h : List V) (value : V) → Fit h → goes h value ≡ true → Fit (h ++ (value ∷ []))
  Fit-grown h value fit goes_on t y e =
      elim (nth_grown h value t y e) [
        | inl old ↦ ap (λ l. goes l y) (take-append-le t h (value ∷ []) (omega (arith, old.0))) ∙ fit t y old.1
        | inr new ↦
            ap (λ l. goes l y) (ap (λ n. take n (h ++ (value ∷ []))) new.0 ∙ (take-append-le (length h) h (value ∷ []) (omega arith) ∙ take-length h))
            ∙ (ap (λ z. goes h z) new.1 ∙ goes_on)
      ]

  -- the certificate of the last slot of h, or the one before
  with_cert-has : (u v : ℕ) (h : List V) (certs : List (Option (Cert V))) (t : ℕ) → u ≤ v → ((suc t ≡ length h → ⊥) → HasCert certs u t) → HasCert (with_cert v h certs) u t
  with_cert-has u v h certs t le otherwise =
      elim (cases_Bool (suc t == length h)) [
        | inl same ↦
            let len : suc t ≡ length h = (Decides-eqb (suc t) (length h)).0 same in
            let there = slice_get_there h t (omega (arith, len)) in
            (record { at = v; value = there.0 }, with_cert-last v h certs t there.0 len there.1, le)
        | inr differ ↦
            let other : suc t ≡ length h → ⊥ = λ len. absurd (cc (differ, (Decides-eqb (suc t) (length h)).1 len)) in
            let has = otherwise other in
            (has.0, with_cert-other v h certs t other ∙ has.1, has.2)
      ]

  pub consistent_after : (s : State V) (step : Step V X) → IsConsistent s → Can digest goes k s step → IsConsistent (after s step)
  consistent_after s (accepts m value) consistent can = record {
    in_order = consistent.in_order;
    of_accepted = omega (arith, consistent.of_accepted, length-append s.accepted (value ∷ []));
    within = omega (arith, can.1, length-append s.accepted (value ∷ []));
    quiet = λ on. absurd (cc (on, can.0));
    above = consistent.above;
    fit = Fit-grown s.accepted value consistent.fit can.2;
    held = consistent.held;
  }
  consistent_after s (signs v n x) consistent can = record {
    in_order = omega (arith, can.1, can.2);
    of_accepted = omega (arith, slice_get_within s.accepted n can.3.0 can.3.1);
    within = consistent.within;
    quiet = consistent.quiet;
    above = consistent.above;
    fit = consistent.fit;
    held = consistent.held;
  }
  consistent_after s (prepares v h) consistent can =
      let len : length h ≡ suc s.prepared = ap length can.2 ∙ length-take-le (suc s.prepared) s.accepted (omega (arith, can.1, consistent.of_accepted)) in
      record {
        in_order = omega (arith, len, can.1);
        of_accepted = consistent.of_accepted;
        within = consistent.within;
        quiet = consistent.quiet;
        above = consistent.above;
        fit = consistent.fit;
        held = λ t lt. with_cert-has s.view v h s.certs t (omega (arith, can.0)) (λ differ. consistent.held t (not_last len t lt differ));
      }
    where
      not_last : {n m : ℕ} → n ≡ suc m → (t : ℕ) → t < n → (suc t ≡ n → ⊥) → t < m
      not_last e t lt differ = omega (arith, differ)
  consistent_after s (changes w entries) consistent can = record {
    in_order = omega arith;
    of_accepted = omega arith;
    within = omega arith;
    quiet = λ on. refl;
    above = λ on. omega (arith, can.0);
    fit = λ t value e. absurd (none-some value e);
    held = λ t lt. absurd (omega arith);
  }
  consistent_after s (enters w vcs chosen) consistent can = record {
    in_order = omega arith;
    of_accepted = omega arith;
    within = can.1.within;
    quiet = λ on. absurd cc;
    above = λ on. absurd cc;
    fit = can.1.fits;
    held = λ t lt. absurd (omega arith);
  }
  consistent_after s (executes v n value) consistent can = record {
    in_order = consistent.in_order;
    of_accepted = consistent.of_accepted;
    within = consistent.within;
    quiet = consistent.quiet;
    above = consistent.above;
    fit = consistent.fit;
    held = consistent.held;
  }

  pub consistent : (steps : List (Step V X)) → Follows digest goes k steps → IsConsistent (state_of steps)
  consistent [] follows = record {
    in_order = omega arith;
    of_accepted = omega arith;
    within = omega arith;
    quiet = λ on. refl;
    above = λ on. absurd cc;
    fit = λ t value e. absurd (none-some value e);
    held = λ t lt. absurd (omega arith);
  }
  consistent (step ∷ steps) follows = consistent_after (state_of steps) step (consistent steps follows.1) follows.0

  -- the view never falls
  pub view_rises : (s : State V) (step : Step V X) → Can digest goes k s step → s.view ≤ (after s step).view
  view_rises s (accepts m value) can = omega arith
  view_rises s (signs v n x) can = omega arith
  view_rises s (prepares v h) can = omega arith
  view_rises s (changes w entries) can = omega (arith, can.0)
  view_rises s (enters w vcs chosen) can = elim can.0 [ inl lt ↦ omega arith | inr same ↦ omega (arith, same.0) ]
  view_rises s (executes v n value) can = omega arith

  -- nor does the view of a certificate
  pub certs_rise : (s : State V) (step : Step V X) (v t : ℕ) → Can digest goes k s step → v ≤ s.view → HasCert s.certs v t → HasCert (after s step).certs v t
  certs_rise s (accepts m value) v t can le has = has
  certs_rise s (signs w n x) v t can le has = has
  certs_rise s (prepares w h) v t can le has = with_cert-has v w h s.certs t (omega (arith, can.0)) (λ differ. has)
  certs_rise s (changes w entries) v t can le has = has
  certs_rise s (enters w vcs chosen) v t can le has = has
  certs_rise s (executes w n value) v t can le has = has
