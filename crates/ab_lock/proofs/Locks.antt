-- Lock over views, and what was executed.
use Rattle.std.proofs.Common.{◌≡◌, ℕ, zero, suc, ◌+◌, ◌<◌, ◌≤◌, Bool, true, Some, List, length, take, slice_get, map, refl, sym, ap, ◌∙◌, subst, inl, inr, arith}
use Rattle.std.specs.Prelude.{Contains}
use Rattle.std.proofs.lemmas.Bool.{cases_lt}
use Rattle.std.proofs.lemmas.Option.{none-some, slice_get_within}
use Rattle.std.proofs.lemmas.List.{length-map}
use Rattle.ab_num.specs.declared.party.Party.{Party}
use Rattle.ab_lock.specs.Steps.{Cert, SlotEntry, Change, Step, prepares, enters, entry_of, IsBest, Ends, full, none, unfit, IsChosen}
use Rattle.ab_lock.specs.Quorums.{AreReplicas, IsCorrect, IsCertified, AreChanges, in_prepared, in_change, TracePremises}
use Rattle.ab_hist.proofs.KeptLemmas.{slice_get-take}
use Rattle.ab_lock.proofs.Lists.{first_in, take_same, nth_map}
use Rattle.std.proofs.Math.Seq.{take-length}
use Rattle.ab_num.proofs.Lists.{slice_get_there, Contains-map_cases}
use Rattle.ab_lock.proofs.Consistent.{Fit}
use Rattle.ab_lock.proofs.Traces.{was_allowed, signs_once, prepared_fit, change_names, entered, prepared_good}
use Rattle.ab_lock.proofs.QuorumLemmas.{replicas_meet, third_meets, correct_part}

module _ {V X : Type 0} (digest : V → X) (f : ℕ) (faulty : List Party) (traces : ℕ → List (Step V X)) (Source : ℕ → V → Type 0) (goes : List V → V → Bool) (k : ℕ) (p : TracePremises digest f faulty traces Source goes k) where
  abbrev Correct : ℕ → Type 0
  Correct r = IsCorrect f faulty r

  abbrev Certified : ℕ → ℕ → X → Type 0
  Certified v n x = IsCertified f faulty traces v n x

  -- two certificates of one view and slot have one digest
  pub one_digest : (v n : ℕ) (x y : X) → Certified v n x → Certified v n y → x ≡ y
  one_digest v n x y a b =
      let m = replicas_meet faulty f a.by b.by p.few a.replicas b.replicas (omega (arith, a.enough)) (omega (arith, b.enough)) in
      let ok : Correct m.at = (m.within, m.correct) in
      signs_once digest goes k (traces m.at) v n x y (p.follows m.at ok) (a.signed m.at m.in_one ok) (b.signed m.at m.in_other ok)

  -- what a correct replica prepared has a certificate of that view
  pub certified_of : (r v : ℕ) (h : List V) → Correct r → Contains (traces r) (prepares v h) → (t : ℕ) (value : V) → slice_get h t ≡ Some value → Certified v t (digest value)
  certified_of r v h ok is t value there =
      prepared_good digest goes k (λ u n z. Certified u n (digest z)) (traces r) (p.follows r ok) (λ u l is_in n z len at. p.rests r ok (prepares u l) is_in n z len at) v h is t value there

  -- f + 1 correct replicas prepared the values h in v
  pub record IsLocked (v : ℕ) (h : List V) : Type 0 where
    pub by : List ℕ
    pub replicas : AreReplicas f by
    pub enough : f + 1 ≤ length by
    pub each : (r : ℕ) → Contains by r → Correct r × Contains (traces r) (prepares v h)

  module _ (v : ℕ) (h : List V) (locked : IsLocked v h) where
    holder : (r : ℕ) × Correct r × Contains (traces r) (prepares v h)
    holder =
        let r = first_in locked.by (omega (arith, locked.enough)) in
        let e = locked.each r.0 r.1 in
        (r.0, e.0, e.1)

    fitting : (length h ≤ suc k) × Fit digest goes k h
    fitting = prepared_fit digest goes k (traces holder.0) v h (p.follows holder.0 holder.1) holder.2

    -- each certificate of w for a slot of h has the digest of h there
    abbrev Agreed : ℕ → Type 0
    Agreed w = (t : ℕ) (value : V) → slice_get h t ≡ Some value → (y : X) → Certified w t y → y ≡ digest value

    module _ (w : ℕ) (above : v < w) (before : (u : ℕ) → v ≤ u → u < w → Agreed u) (r : ℕ) (ok : Correct r) (vcs : List (Change V)) (chosen : List V) (is_in : Contains (traces r) (enters w vcs chosen)) where
      all_fit : AreChanges digest f faulty traces w vcs
      all_fit = p.rests r ok (enters w vcs chosen) is_in

      is_chosen : IsChosen goes k vcs chosen
      is_chosen = (was_allowed digest goes k (traces r) (enters w vcs chosen) (p.follows r ok) is_in).2.1

      -- one of the VIEW-CHANGEs has a certificate of v or above for each slot of h
      record HasHigh (t : ℕ) : Type 0 where
        change : Change V
        is_in_vcs : Contains vcs change
        cert : Cert V
        stands : slice_get change.certs t ≡ Some cert
        high : v ≤ cert.at

      has_high : (t : ℕ) → t < length h → HasHigh t
      has_high t lt =
          let m = third_meets f locked.by (map (λ c. c.by) vcs) locked.replicas all_fit.replicas locked.enough (omega (arith, all_fit.enough, length-map vcs (λ (c : Change V). c.by))) in
          let c = Contains-map_cases (λ c. c.by) vcs m.0 m.2 in
          let held = locked.each m.0 m.1 in
          let good : Correct c.0.by = subst (λ (q : ℕ). Correct q) (sym c.2) held.0 in
          let mine : Contains (traces c.0.by) (prepares v h) = subst (λ (q : ℕ). Contains (traces q) (prepares v h)) (sym c.2) held.1 in
          let named = change_names digest goes k (traces c.0.by) v w h (map (entry_of digest) c.0.certs) (p.follows c.0.by good) above mine (all_fit.signed c.0 c.1 good) t lt in
          let cert = nth_map (entry_of digest) c.0.certs t named.0 named.1 in
          record { change = c.0; is_in_vcs = c.1; cert = cert.0; stands = cert.1; high = high_of cert.0 named.0 cert.2 named.2 }
        where
          high_of : (c : Cert V) (e : SlotEntry X) → entry_of digest c ≡ e → v ≤ e.at → v ≤ c.at
          high_of c e same le = omega (arith, le, ap (λ z. z.at) same)

      best_is : (t : ℕ) (value best : V) → slice_get h t ≡ Some value → IsBest vcs t best → best ≡ value
      best_is t value best there b =
          let high = has_high t (slice_get_within h t value there) in
          let le : v ≤ b.cert.at = omega (arith, high.high, b.highest high.change high.is_in_vcs high.cert high.stands) in
          let good = all_fit.fits b.change b.is_in t b.cert b.stands in
          let same : digest b.cert.value ≡ digest value = before b.cert.at le good.0 t value there (digest b.cert.value) good.1 in
          sym b.value_is ∙ p.apart t b.cert.value value (in_change r w vcs chosen b.change b.cert ok is_in b.is_in b.stands refl) (in_prepared holder.0 v h holder.1 holder.2 there) same

      longer : (t : ℕ) (value : V) → slice_get h t ≡ Some value → (t ≤ length chosen) → (take t chosen ≡ take t h) → t < length chosen
      longer t value there le same =
          elim (cases_lt t (length chosen)) [
            | inl lt ↦ lt
            | inr ge ↦ absurd (stops is_chosen.ends (omega arith))
          ]
        where
          stops : Ends goes k vcs chosen → t ≡ length chosen → ⊥
          stops (full is) e = omega (arith, is, e, fitting.0, slice_get_within h t value there)
          stops (none nobody) e =
              let high = has_high t (slice_get_within h t value there) in
              none-some high.cert (sym (ap (λ n. slice_get high.change.certs n) e ∙ nobody high.change high.is_in_vcs) ∙ high.stands)
          stops (unfit best is not_fit) e =
              let b : best ≡ value = best_is t value best there (subst (λ (n : ℕ). IsBest vcs n best) (sym e) is) in
              let whole : chosen ≡ take t h = sym (ap (λ n. take n chosen) e ∙ take-length chosen) ∙ same in
              let does_fit : goes chosen best ≡ true = ap (λ l. goes l best) whole ∙ (ap (λ z. goes (take t h) z) b ∙ fitting.1 t value there) in
              absurd (cc (not_fit, does_fit))

      chosen_same : (t : ℕ) → t ≤ length h → (t ≤ length chosen) × (take t chosen ≡ take t h)
      chosen_same zero le = (omega arith, refl)
      chosen_same (suc t) le =
          let was = chosen_same t (omega arith) in
          let here = slice_get_there h t (omega arith) in
          let lt = longer t here.0 here.1 was.0 was.1 in
          let there = slice_get_there chosen t lt in
          let same : there.0 ≡ here.0 = best_is t here.0 there.0 here.1 (is_chosen.best t there.0 there.1) in
          (omega (arith, lt), take_same t chosen h here.0 was.1 (there.1 ∙ ap Some same) here.1)

      -- so the chosen values go on from h
      chosen_has : (t : ℕ) (value : V) → slice_get h t ≡ Some value → slice_get chosen t ≡ Some value
      chosen_has t value there =
          let all = chosen_same (length h) (omega arith) in
          let lt = slice_get_within h t value there in
          sym (slice_get-take (length h) chosen t lt) ∙ (ap (λ l. slice_get l t) all.1 ∙ (slice_get-take (length h) h t lt ∙ there))

    -- a certificate of w was signed by a correct replica, which accepted what was chosen for w
    agreed_above : (w : ℕ) → v < w → ((u : ℕ) → v ≤ u → u < w → Agreed u) → Agreed w
    agreed_above w above before t value there y cert =
        let part = correct_part faulty f cert.by p.few cert.replicas (omega (arith, cert.enough)) in
        let r = first_in part.by (omega (arith, part.enough)) in
        let e = part.each r.0 r.1 in
        let ok : Correct r.0 = (cert.replicas.within r.0 e.0, e.1) in
        let was = entered digest goes k (traces r.0) w t y (p.follows r.0 ok) (omega (arith, above)) (cert.signed r.0 e.0 ok) in
        was.agrees value (chosen_has w above before r.0 ok was.vcs was.chosen was.is_in t value there)

    agreed_at : (w : ℕ) → v ≤ w → ((u : ℕ) → v ≤ u → u < w → Agreed u) → Agreed w
    agreed_at w le before =
        elim (cases_lt v w) [
          | inl lt ↦ agreed_above w lt before
          | inr ge ↦
              let e : v ≡ w = omega arith in
              λ t value there y cert. one_digest w t y (digest value) cert (subst (λ (u : ℕ). Certified u t (digest value)) e (certified_of holder.0 v h holder.1 holder.2 t value there))
        ]

    agreed_below : (n w : ℕ) → w < n → v ≤ w → Agreed w
    agreed_below zero w lt le = absurd (omega arith)
    agreed_below (suc n) w lt le = agreed_at w le (λ u le' lt'. agreed_below n u (omega arith) le')

    -- the lock of a list
    pub lock_list : (w : ℕ) → v ≤ w → (t : ℕ) (value : V) → slice_get h t ≡ Some value → (y : X) → Certified w t y → y ≡ digest value
    lock_list w le = agreed_below (suc w) w (omega arith) le
