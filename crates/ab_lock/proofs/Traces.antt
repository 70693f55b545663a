-- What one replica's steps say of each other.
use Rattle.std.proofs.Common.{◌≡◌, ℕ, suc, ◌<◌, ◌≤◌, ◌==◌, Bool, false, Some, Option, List, [], ◌∷◌, ◌⊎◌, length, take, slice_get, sym, ap, ◌∙◌, subst, inl, inr, arith}
use Rattle.std.specs.Prelude.{Contains}
use Rattle.std.proofs.lemmas.Bool.{cases_Bool, cases_lt}
use Rattle.std.proofs.lemmas.Option.{none-some, same_Some, slice_get_within}
use Rattle.std.proofs.lemmas.Bool.Decides.{Decides-eqb}
use Rattle.ab_lock.specs.Steps.{Cert, SlotEntry, Change, Step, accepts, signs, prepares, changes, enters, executes, State, cert_at, after, state_of, IsAt, Lists, Can, Follows}
use Rattle.ab_hist.proofs.KeptLemmas.{slice_get-take}
use Rattle.ab_lock.proofs.Lists.{nth_grown, nth_still}
use Rattle.std.proofs.lemmas.List.{length-take-le, take-take}
use Rattle.ab_num.proofs.Lists.{Contains-head, Contains-tail, Contains-cons_cases, Contains-none, slice_get_there}
use Rattle.ab_lock.proofs.Consistent.{HasCert, Fit, IsConsistent, consistent, consistent_after, view_rises, certs_rise}

module _ {V X : Type 0} (digest : V → X) (goes : List V → V → Bool) (k : ℕ) where
  abbrev Trace : Type 0
  Trace = List (Step V X)

  abbrev Lawful : Trace → Type 0
  Lawful steps = Follows digest goes k steps

  -- each step was allowed where it was taken
  pub was_allowed : (steps : Trace) (step : Step V X) → Lawful steps → Contains steps step → (s : State V) × IsConsistent digest goes k s × Can digest goes k s step
  was_allowed [] step lawful is = absurd (Contains-none step is)
  was_allowed (last ∷ steps) step lawful is =
      elim (Contains-cons_cases last steps step is) [
        | inl e ↦ (state_of steps, consistent digest goes k steps lawful.1, subst (λ (z : Step V X). Can digest goes k (state_of steps) z) e lawful.0)
        | inr more ↦ was_allowed steps step lawful.1 more
      ]

  -- views of earlier steps
  abbrev pub view_of : Step V X → ℕ
  view_of (accepts m value) = 0
  view_of (signs v n x) = v
  view_of (prepares v h) = v
  view_of (changes w entries) = w
  view_of (enters w vcs chosen) = w
  view_of (executes v n value) = v

  view_after : (s : State V) (step : Step V X) → Can digest goes k s step → view_of step ≤ (after s step).view
  view_after s (accepts m value) can = omega arith
  view_after s (signs v n x) can = omega (arith, can.0)
  view_after s (prepares v h) can = omega (arith, can.0)
  view_after s (changes w entries) can = omega arith
  view_after s (enters w vcs chosen) can = omega arith
  view_after s (executes v n value) can = omega (arith, can.0)

  pub views_below : (steps : Trace) (step : Step V X) → Lawful steps → Contains steps step → view_of step ≤ (state_of steps).view
  views_below [] step lawful is = absurd (Contains-none step is)
  views_below (last ∷ steps) step lawful is =
      elim (Contains-cons_cases last steps step is) [
        | inl e ↦ subst (λ (z : Step V X). view_of z ≤ (after (state_of steps) last).view) e (view_after (state_of steps) last lawful.0)
        | inr more ↦ omega (arith, views_below steps step lawful.1 more, view_rises digest goes k (state_of steps) last lawful.0)
      ]

  -- a signed PREPARE is of a lower view, or of a signed slot of this one
  abbrev SignedAt : State V → ℕ → ℕ → X → Type 0
  SignedAt s v n x = (v < s.view) ⊎ ((v ≡ s.view) × (n < s.signed) × IsAt digest s.accepted n x)

  signed_after : (s : State V) (step : Step V X) (v n : ℕ) (x : X) → IsConsistent digest goes k s → Can digest goes k s step → SignedAt s v n x → SignedAt (after s step) v n x
  signed_after s step v n x consistent can (inl lower) = inl (omega (arith, lower, view_rises digest goes k s step can))
  signed_after s (accepts m value) v n x consistent can (inr here) = inr (here.0, here.1, (here.2.0, nth_still s.accepted (value ∷ []) n here.2.0 here.2.1, here.2.2))
  signed_after s (signs w m y) v n x consistent can (inr here) = inr (here.0, omega (arith, here.1, can.1), here.2)
  signed_after s (prepares w h) v n x consistent can (inr here) = inr here
  signed_after s (changes w entries) v n x consistent can (inr here) = inl (omega (arith, here.0, can.0))
  signed_after s (enters w vcs chosen) v n x consistent can (inr here) =
      elim can.0 [
        | inl above ↦ inl (omega (arith, here.0, above))
        | inr equal ↦ absurd (omega (arith, consistent.quiet equal.1, here.1, consistent.of_accepted))
      ]
  signed_after s (executes w m value) v n x consistent can (inr here) = inr here

  signed_at : (steps : Trace) (v n : ℕ) (x : X) → Lawful steps → Contains steps (signs v n x) → SignedAt (state_of steps) v n x
  signed_at [] v n x lawful is = absurd (Contains-none _ is)
  signed_at (last ∷ steps) v n x lawful is =
      elim (Contains-cons_cases last steps (signs v n x) is) [
        | inl e ↦
            let can = subst (λ (z : Step V X). Can digest goes k (state_of steps) z) e lawful.0 in
            subst (λ (z : Step V X). SignedAt (after (state_of steps) z) v n x) (sym e) (inr (can.0, omega arith, can.3))
        | inr more ↦ signed_after (state_of steps) last v n x (consistent digest goes k steps lawful.1) lawful.0 (signed_at steps v n x lawful.1 more)
      ]

  -- the PREPARE that may be signed now is not signed yet
  signed_new : (steps : Trace) (v n : ℕ) (x y : X) → Lawful steps → Can digest goes k (state_of steps) (signs v n x) → Contains steps (signs v n y) → ⊥
  signed_new steps v n x y lawful can is =
      elim (signed_at steps v n y lawful is) [
        | inl lower ↦ omega (arith, lower, can.0)
        | inr here ↦ omega (arith, here.1, can.1)
      ]

  -- one PREPARE at most for each view and slot
  pub signs_once : (steps : Trace) (v n : ℕ) (x y : X) → Lawful steps → Contains steps (signs v n x) → Contains steps (signs v n y) → x ≡ y
  signs_once [] v n x y lawful one two = absurd (Contains-none _ one)
  signs_once (last ∷ steps) v n x y lawful one two =
      elim (Contains-cons_cases last steps (signs v n x) one) [
        | inl e ↦ elim (Contains-cons_cases last steps (signs v n y) two) [
          | inl d ↦ cc (e, d)
          | inr later ↦ absurd (signed_new steps v n x y lawful.1 (subst (λ (z : Step V X). Can digest goes k (state_of steps) z) e lawful.0) later)
        ]
        | inr more ↦ elim (Contains-cons_cases last steps (signs v n y) two) [
          | inl d ↦ absurd (signed_new steps v n y x lawful.1 (subst (λ (z : Step V X). Can digest goes k (state_of steps) z) d lawful.0) more)
          | inr later ↦ signs_once steps v n x y lawful.1 more later
        ]
      ]

  -- what was prepared fits, and is of the slots there are
  pub prepared_fit : (steps : Trace) (v : ℕ) (h : List V) → Lawful steps → Contains steps (prepares v h) → (length h ≤ suc k) × Fit digest goes k h
  prepared_fit steps v h lawful is =
      let was = was_allowed steps (prepares v h) lawful is in
      let s = was.0 in
      let is_take : h ≡ take (suc s.prepared) s.accepted = was.2.2 in
      let len : length h ≡ suc s.prepared = ap length is_take ∙ length-take-le (suc s.prepared) s.accepted (omega (arith, was.2.1, was.1.of_accepted)) in
      (omega (arith, len, was.2.1, was.1.of_accepted, was.1.within), fit_front s.accepted (suc s.prepared) h is_take len was.1.fit)
    where
      fit_front : (all : List V) (m : ℕ) (h : List V) → h ≡ take m all → length h ≡ m → Fit digest goes k all → Fit digest goes k h
      fit_front all m h e len fit t value is =
          let lt : t < m = omega (arith, slice_get_within h t value is, len) in
          let there : slice_get all t ≡ Some value = sym (ap (λ l. slice_get l t) e ∙ slice_get-take m all t lt) ∙ is in
          ap (λ l. goes l value) (ap (λ l. take t l) e ∙ take-take t m all (omega arith)) ∙ fit t value there

  pub prepared_length : (s : State V) (v : ℕ) (h : List V) → IsConsistent digest goes k s → Can digest goes k s (prepares v h) → length h ≡ suc s.prepared
  prepared_length s v h consistent can = ap length can.2 ∙ length-take-le (suc s.prepared) s.accepted (omega (arith, can.1, consistent.of_accepted))

  -- what was prepared has certificates of that view or above from then on
  cert_kept : (steps : Trace) (v : ℕ) (h : List V) (t : ℕ) → Lawful steps → Contains steps (prepares v h) → t < length h → HasCert (state_of steps).certs v t
  cert_kept [] v h t lawful is lt = absurd (Contains-none _ is)
  cert_kept (last ∷ steps) v h t lawful is lt =
      elim (Contains-cons_cases last steps (prepares v h) is) [
        | inl e ↦
            let can = subst (λ (z : Step V X). Can digest goes k (state_of steps) z) e lawful.0 in
            let s = consistent_after digest goes k (state_of steps) (prepares v h) (consistent digest goes k steps lawful.1) can in
            let has = s.held t lt in
            subst (λ (z : Step V X). HasCert (after (state_of steps) z).certs v t) (sym e) (has.0, has.1, omega (arith, has.2, can.0))
        | inr more ↦ certs_rise digest goes k (state_of steps) last v t lawful.0 (views_below steps (prepares v h) lawful.1 more) (cert_kept steps v h t lawful.1 more lt)
      ]

  -- entries that list certificates for each slot below n
  entries_have : (certs : List (Option (Cert V))) (entries : List (SlotEntry X)) (v n : ℕ) → Lists digest (cert_at certs) entries → ((t : ℕ) → t < n → HasCert certs v t)
      → (t : ℕ) → t < n → (e : SlotEntry X) × (slice_get entries t ≡ Some e) × (v ≤ e.at)
  entries_have certs entries v n lists have t lt =
      elim (cases_lt t (length entries)) [
        | inl inside ↦
            let there = slice_get_there entries t inside in
            let listed = lists.each t there.0 there.1 in
            let has = have t lt in
            let same : listed.0 ≡ has.0 = same_Some listed.0 has.0 (sym listed.1 ∙ has.1) in
            (there.0, there.1, omega (arith, has.2, ap (λ c. c.at) same, ap (λ e. e.at) listed.2))
        | inr past ↦
            let has = have (length entries) (omega arith) in
            absurd (none-some has.0 (sym lists.ends ∙ has.1))
      ]

  -- a VIEW-CHANGE for a higher view names what was prepared
  pub change_names : (steps : Trace) (v w : ℕ) (h : List V) (entries : List (SlotEntry X)) → Lawful steps → v < w → Contains steps (prepares v h) → Contains steps (changes w entries)
      → (t : ℕ) → t < length h → (e : SlotEntry X) × (slice_get entries t ≡ Some e) × (v ≤ e.at)
  change_names [] v w h entries lawful lt one two = absurd (Contains-none _ one)
  change_names (last ∷ steps) v w h entries lawful lt one two =
      elim (Contains-cons_cases last steps (prepares v h) one) [
        | inl e ↦ elim (Contains-cons_cases last steps (changes w entries) two) [
          | inl d ↦ absurd (cc (e, d))
          | inr earlier ↦
              let can = subst (λ (z : Step V X). Can digest goes k (state_of steps) z) e lawful.0 in
              absurd (omega (arith, views_below steps (changes w entries) lawful.1 earlier, can.0, lt))
        ]
        | inr more ↦ elim (Contains-cons_cases last steps (changes w entries) two) [
          | inl d ↦
              let can = subst (λ (z : Step V X). Can digest goes k (state_of steps) z) d lawful.0 in
              entries_have (state_of steps).certs entries v (length h) can.1 (λ t in_h. cert_kept steps v h t lawful.1 more in_h)
          | inr earlier ↦ change_names steps v w h entries lawful.1 lt more earlier
        ]
      ]

  -- a replica in a view above 0 entered it from VIEW-CHANGEs, and its accepted values go on from the chosen ones
  record IsEntered (steps : Trace) (w : ℕ) (accepted : List V) : Type 0 where
    vcs : List (Change V)
    chosen : List V
    is_in : Contains steps (enters w vcs chosen)
    begins : (t : ℕ) (value : V) → slice_get chosen t ≡ Some value → slice_get accepted t ≡ Some value

  entered_more : (step : Step V X) (steps : Trace) (w : ℕ) (old new : List V) → ((t : ℕ) (value : V) → slice_get old t ≡ Some value → slice_get new t ≡ Some value)
      → IsEntered steps w old → IsEntered (step ∷ steps) w new
  entered_more step steps w old new grows was = record {
    vcs = was.vcs;
    chosen = was.chosen;
    is_in = Contains-tail step (enters w was.vcs was.chosen) steps was.is_in;
    begins = λ t value e. grows t value (was.begins t value e);
  }

  entered_now : (steps : Trace) → Lawful steps → (state_of steps).changing ≡ false → 1 ≤ (state_of steps).view → IsEntered steps (state_of steps).view (state_of steps).accepted
  entered_now [] lawful still above = absurd (omega arith)
  entered_now (accepts m value ∷ steps) lawful still above =
      entered_more (accepts m value) steps _ _ _ (λ t other e. nth_still (state_of steps).accepted (value ∷ []) t other e) (entered_now steps lawful.1 still above)
  entered_now (signs v n x ∷ steps) lawful still above = entered_more (signs v n x) steps _ _ _ (λ t other e. e) (entered_now steps lawful.1 still above)
  entered_now (prepares v h ∷ steps) lawful still above = entered_more (prepares v h) steps _ _ _ (λ t other e. e) (entered_now steps lawful.1 still above)
  entered_now (changes w entries ∷ steps) lawful still above = absurd cc
  entered_now (enters w vcs chosen ∷ steps) lawful still above =
      record { vcs = vcs; chosen = chosen; is_in = Contains-head (enters w vcs chosen) steps; begins = λ t other e. e }
  entered_now (executes v n value ∷ steps) lawful still above = entered_more (executes v n value) steps _ _ _ (λ t other e. e) (entered_now steps lawful.1 still above)

  -- a PREPARE of a view above 0 agrees with what was chosen for it
  pub record AgreesWithChosen (steps : Trace) (w n : ℕ) (x : X) : Type 0 where
    pub vcs : List (Change V)
    pub chosen : List V
    pub is_in : Contains steps (enters w vcs chosen)
    pub agrees : (value : V) → slice_get chosen n ≡ Some value → x ≡ digest value

  signed_agrees : (steps : Trace) (w n : ℕ) (x : X) → Lawful steps → 1 ≤ w → Can digest goes k (state_of steps) (signs w n x) → AgreesWithChosen steps w n x
  signed_agrees steps w n x lawful above can =
      elim (cases_Bool (state_of steps).changing) [
        | inl on ↦ absurd (omega (arith, (consistent digest goes k steps lawful).quiet on, slice_get_within (state_of steps).accepted n can.3.0 can.3.1))
        | inr off ↦
            let was = entered_now steps lawful off (omega (arith, can.0)) in
            record {
              vcs = was.vcs;
              chosen = was.chosen;
              is_in = subst (λ (u : ℕ). Contains steps (enters u was.vcs was.chosen)) (sym can.0) was.is_in;
              agrees = λ value e. sym can.3.2 ∙ ap digest (same_Some can.3.0 value (sym can.3.1 ∙ was.begins n value e));
            }
      ]

  pub entered : (steps : Trace) (w n : ℕ) (x : X) → Lawful steps → 1 ≤ w → Contains steps (signs w n x) → AgreesWithChosen steps w n x
  entered [] w n x lawful above is = absurd (Contains-none _ is)
  entered (last ∷ steps) w n x lawful above is =
      let was : AgreesWithChosen steps w n x =
      elim (Contains-cons_cases last steps (signs w n x) is) [
        | inl e ↦ signed_agrees steps w n x lawful.1 above (subst (λ (z : Step V X). Can digest goes k (state_of steps) z) e lawful.0)
        | inr more ↦ entered steps w n x lawful.1 above more
      ] in
      record { vcs = was.vcs; chosen = was.chosen; is_in = Contains-tail last (enters w was.vcs was.chosen) steps was.is_in; agrees = was.agrees }

  same_executes : (v m n : ℕ) (a b : V) → m ≡ n → a ≡ b → ◌≡◌ {A = Step V X} (executes v m a) (executes v n b)
  same_executes v m n a b e d = λ i. executes v (e i) (d i)

  same_accepts : (m n : ℕ) (a b : V) → m ≡ n → a ≡ b → ◌≡◌ {A = Step V X} (accepts m a) (accepts n b)
  same_accepts m n a b e d = λ i. accepts (e i) (d i)

  -- where an executed value was executed
  pub executed_step : (steps : Trace) → Lawful steps → (n : ℕ) (value : V) → slice_get (state_of steps).executed n ≡ Some value → (v : ℕ) × Contains steps (executes v n value)
  executed_step [] lawful n value is = absurd (none-some value is)
  executed_step (accepts m other ∷ steps) lawful n value is = let r = executed_step steps lawful.1 n value is in (r.0, Contains-tail _ _ steps r.1)
  executed_step (signs v m x ∷ steps) lawful n value is = let r = executed_step steps lawful.1 n value is in (r.0, Contains-tail _ _ steps r.1)
  executed_step (prepares v h ∷ steps) lawful n value is = let r = executed_step steps lawful.1 n value is in (r.0, Contains-tail _ _ steps r.1)
  executed_step (changes w entries ∷ steps) lawful n value is = let r = executed_step steps lawful.1 n value is in (r.0, Contains-tail _ _ steps r.1)
  executed_step (enters w vcs chosen ∷ steps) lawful n value is = let r = executed_step steps lawful.1 n value is in (r.0, Contains-tail _ _ steps r.1)
  executed_step (executes v m other ∷ steps) lawful n value is =
      elim (nth_grown (state_of steps).executed other n value is) [
        | inl old ↦ let r = executed_step steps lawful.1 n value old.1 in (r.0, Contains-tail _ _ steps r.1)
        | inr new ↦
            let e : ◌≡◌ {A = Step V X} (executes v m other) (executes v n value) = same_executes v m n other value (lawful.0.1 ∙ sym new.0) (sym new.1) in
            (v, subst (λ (z : Step V X). Contains (executes v m other ∷ steps) z) e (Contains-head (executes v m other) steps))
      ]

  -- where an accepted value comes from: it was accepted, or chosen for the view
  pub data ComesFrom (steps : Trace) (w n : ℕ) (value : V) : Type 0 where
    by_itself : Contains steps (accepts n value) → ComesFrom steps w n value
    from_choice : (vcs : List (Change V)) (chosen : List V) → Contains steps (enters w vcs chosen) → slice_get chosen n ≡ Some value → ComesFrom steps w n value

  comes_more : (step : Step V X) (steps : Trace) (w n : ℕ) (value : V) → ComesFrom steps w n value → ComesFrom (step ∷ steps) w n value
  comes_more step steps w n value (by_itself is) = by_itself (Contains-tail step _ steps is)
  comes_more step steps w n value (from_choice vcs chosen is there) = from_choice vcs chosen (Contains-tail step _ steps is) there

  accepted_from : (steps : Trace) → Lawful steps → (n : ℕ) (value : V) → slice_get (state_of steps).accepted n ≡ Some value → ComesFrom steps (state_of steps).view n value
  accepted_from [] lawful n value is = absurd (none-some value is)
  accepted_from (accepts m other ∷ steps) lawful n value is =
      elim (nth_grown (state_of steps).accepted other n value is) [
        | inl old ↦ comes_more (accepts m other) steps _ n value (accepted_from steps lawful.1 n value old.1)
        | inr new ↦
            let e : ◌≡◌ {A = Step V X} (accepts m other) (accepts n value) = same_accepts m n other value (lawful.0.3 ∙ sym new.0) (sym new.1) in
            by_itself (subst (λ (z : Step V X). Contains (accepts m other ∷ steps) z) e (Contains-head (accepts m other) steps))
      ]
  accepted_from (signs v m x ∷ steps) lawful n value is = comes_more (signs v m x) steps _ n value (accepted_from steps lawful.1 n value is)
  accepted_from (prepares v h ∷ steps) lawful n value is = comes_more (prepares v h) steps _ n value (accepted_from steps lawful.1 n value is)
  accepted_from (changes w entries ∷ steps) lawful n value is = absurd (none-some value is)
  accepted_from (enters w vcs chosen ∷ steps) lawful n value is = from_choice vcs chosen (Contains-head (enters w vcs chosen) steps) is
  accepted_from (executes v m other ∷ steps) lawful n value is = comes_more (executes v m other) steps _ n value (accepted_from steps lawful.1 n value is)

  -- a PREPARE is of a value that comes from somewhere
  pub record IsFrom (steps : Trace) (w n : ℕ) (x : X) : Type 0 where
    pub value : V
    pub has : digest value ≡ x
    pub comes : ComesFrom steps w n value

  signed_from_now : (steps : Trace) (w n : ℕ) (x : X) → Lawful steps → Can digest goes k (state_of steps) (signs w n x) → IsFrom steps w n x
  signed_from_now steps w n x lawful can = record {
    value = can.3.0;
    has = can.3.2;
    comes = subst (λ (u : ℕ). ComesFrom steps u n can.3.0) (sym can.0) (accepted_from steps lawful n can.3.0 can.3.1);
  }

  pub signed_from : (steps : Trace) (w n : ℕ) (x : X) → Lawful steps → Contains steps (signs w n x) → IsFrom steps w n x
  signed_from [] w n x lawful is = absurd (Contains-none _ is)
  signed_from (last ∷ steps) w n x lawful is =
      let was : IsFrom steps w n x =
      elim (Contains-cons_cases last steps (signs w n x) is) [
        | inl e ↦ signed_from_now steps w n x lawful.1 (subst (λ (z : Step V X). Can digest goes k (state_of steps) z) e lawful.0)
        | inr more ↦ signed_from steps w n x lawful.1 more
      ] in
      record { value = was.value; has = was.has; comes = comes_more last steps w n was.value was.comes }

  -- what holds of the last prepared value each time holds of all that are prepared
  module _ (Good : ℕ → ℕ → V → Type 0) where
    abbrev pub LastIsGood : Trace → Type 0
    LastIsGood steps = (v : ℕ) (h : List V) → Contains steps (prepares v h) → (n : ℕ) (value : V) → length h ≡ suc n → slice_get h n ≡ Some value → Good v n value

    good_tail : (step : Step V X) (steps : Trace) → LastIsGood (step ∷ steps) → LastIsGood steps
    good_tail step steps last v h is = last v h (Contains-tail step (prepares v h) steps is)

    pub prepared_now : (steps : Trace) → Lawful steps → LastIsGood steps → (t : ℕ) (value : V) → t < (state_of steps).prepared → slice_get (state_of steps).accepted t ≡ Some value → Good (state_of steps).view t value
    prepared_now [] lawful last t value lt is = absurd (omega arith)
    prepared_now (accepts m other ∷ steps) lawful last t value lt is =
        elim (nth_grown (state_of steps).accepted other t value is) [
          | inl old ↦ prepared_now steps lawful.1 (good_tail (accepts m other) steps last) t value lt old.1
          | inr new ↦ let s = consistent digest goes k steps lawful.1 in absurd (omega (arith, lt, new.0, s.in_order, s.of_accepted))
        ]
    prepared_now (signs v n x ∷ steps) lawful last t value lt is = prepared_now steps lawful.1 (good_tail (signs v n x) steps last) t value lt is
    prepared_now (prepares v h ∷ steps) lawful last t value lt is =
        elim (cases_Bool (suc t == length h)) [
          | inl same ↦
              let len : length h ≡ suc t = sym ((Decides-eqb (suc t) (length h)).0 same) in
              let p = prepared_length (state_of steps) v h (consistent digest goes k steps lawful.1) lawful.0 in
              let there : slice_get h t ≡ Some value = ap (λ l. slice_get l t) lawful.0.2 ∙ (slice_get-take (suc (state_of steps).prepared) (state_of steps).accepted t (omega (arith, len, p)) ∙ is) in
              subst (λ (u : ℕ). Good u t value) lawful.0.0 (last v h (Contains-head (prepares v h) steps) t value len there)
          | inr differ ↦
              let p = prepared_length (state_of steps) v h (consistent digest goes k steps lawful.1) lawful.0 in
              let ne : suc t ≡ length h → ⊥ = λ e. cc (differ, (Decides-eqb (suc t) (length h)).1 e) in
              prepared_now steps lawful.1 (good_tail (prepares v h) steps last) t value (omega (arith, lt, p, ne)) is
        ]
    prepared_now (changes w entries ∷ steps) lawful last t value lt is = absurd (omega arith)
    prepared_now (enters w vcs chosen ∷ steps) lawful last t value lt is = absurd (omega arith)
    prepared_now (executes v n other ∷ steps) lawful last t value lt is = prepared_now steps lawful.1 (good_tail (executes v n other) steps last) t value lt is

    pub prepared_good : (steps : Trace) → Lawful steps → LastIsGood steps → (v : ℕ) (h : List V) → Contains steps (prepares v h) → (t : ℕ) (value : V) → slice_get h t ≡ Some value → Good v t value
    prepared_good [] lawful last v h is t value there = absurd (Contains-none _ is)
    prepared_good (step ∷ steps) lawful last v h is t value there =
        elim (Contains-cons_cases step steps (prepares v h) is) [
          | inl e ↦
              let can = subst (λ (z : Step V X). Can digest goes k (state_of steps) z) e lawful.0 in
              prepared_head steps v h lawful.1 can (subst (λ (z : Step V X). LastIsGood (z ∷ steps)) e last) t value there
          | inr more ↦ prepared_good steps lawful.1 (good_tail step steps last) v h more t value there
        ]
      where
        prepared_head : (steps : Trace) (v : ℕ) (h : List V) → Lawful steps → Can digest goes k (state_of steps) (prepares v h) → LastIsGood (prepares v h ∷ steps)
            → (t : ℕ) (value : V) → slice_get h t ≡ Some value → Good v t value
        prepared_head steps v h lawful can last t value there =
            let p = prepared_length (state_of steps) v h (consistent digest goes k steps lawful) can in
            let lt : t < length h = slice_get_within h t value there in
            let of_all : slice_get (state_of steps).accepted t ≡ Some value =
            sym (slice_get-take (suc (state_of steps).prepared) (state_of steps).accepted t (omega (arith, lt, p))) ∙ (sym (ap (λ l. slice_get l t) can.2) ∙ there) in
            subst (λ (u : ℕ). Good u t value) (sym can.0) (prepared_now (prepares v h ∷ steps) (can, lawful) last t value lt of_all)
