-- Leaving and entering views is allowed, and rests on what is known.
use Rattle.std.proofs.Common.{◌≡◌, ℕ, zero, suc, ◌+◌, ◌*◌, ◌<◌, ◌≤◌, ◌==◌, Bool, true, Option, Some, None, List, [], ◌∷◌, ◌⊎◌, length, slice_get, map, refl, sym, ap, ◌∙◌, subst, inl, inr, arith}
use Rattle.std.specs.Prelude.{Contains, nat_eq}
use Rattle.std.specs.List.{IsDistinct}
use Rattle.std.proofs.lemmas.Bool.{cases_Bool}
use Rattle.std.proofs.lemmas.Bool.Decides.{Decides-eqb}
use Rattle.std.proofs.lemmas.Option.{none-some, same_Some}
use Rattle.ab_lock.specs.Quorums.{IsOlder, quorum}
use Rattle.ab_lock.specs.Steps.{Cert, Change, Step, accepts, signs, prepares, changes, enters, executes, State, cert_at, with_cert, state_of, entry_of, Can, Follows}
use Rattle.ab_lock.specs.Acts.{Prepare, ViewChange, LockAct, Knows, KnowsQuorum, KnowsChanges, Backs}
use Rattle.ab_lock.specs.ViewChanges.{Kept, cert_then, certs_from, of_view, leave, own_change, enter, lowest}
use Rattle.ab_lock.specs.Standing.{AreKeptChanges}
use Rattle.std.proofs.lemmas.List.{length-take-le, length-map}
use Rattle.ab_num.proofs.Lists.{Contains-head, Contains-tail, Contains-cons_cases, Contains-none, slice_get_there, Contains-map, Contains-map_cases}
use Rattle.ab_lock.proofs.CertLemmas.{with_cert-last, with_cert-other}
use Rattle.ab_lock.proofs.Lists.{nth_map, map_take, Contains-take}
use Rattle.ab_lock.proofs.Traces.{views_below, prepared_fit}
use Rattle.ab_abs.proofs.Quorums.{out_apart, apart_out}
use Rattle.ab_lock.proofs.VoteLemmas.{take_distinct}
use Rattle.ab_lock.proofs.ChoosingLemmas.{chosen_of-IsChosen}

module _ {V : Type 0} (certs : ℕ → Option (Cert V)) where
  -- the listed certificates stand in their slots
  pub listed : (n t j : ℕ) (c : Cert V) → slice_get (certs_from certs n t) j ≡ Some c → certs (t + j) ≡ Some c
  listed zero t j c is = absurd (none-some c is)
  listed (suc n) t j c is = of_here (certs t) j refl (λ i. listed n (suc t) i c) is
    where
      of_here : (o : Option (Cert V)) (j : ℕ) → certs t ≡ o → ((i : ℕ) → slice_get (certs_from certs n (suc t)) i ≡ Some c → certs (suc t + i) ≡ Some c) → slice_get (cert_then (certs_from certs n (suc t)) o) j ≡ Some c → certs (t + j) ≡ Some c
      of_here None j here later is = absurd (none-some c is)
      of_here (Some d) zero here later is = let e : t + 0 ≡ t = omega arith in ap certs e ∙ (here ∙ is)
      of_here (Some d) (suc j) here later is = let e : t + suc j ≡ suc t + j = omega arith in ap certs e ∙ later j is

  nobody : (t : ℕ) → ((c : Cert V) → certs t ≡ Some c → ⊥) → certs t ≡ None
  nobody t out = of (certs t) refl
    where
      of : (o : Option (Cert V)) → certs t ≡ o → certs t ≡ None
      of None is = is
      of (Some c) is = absurd (out c is)

  -- and they end before the first slot without one
  listed_ends : (n t : ℕ) → ((j : ℕ) (c : Cert V) → certs j ≡ Some c → j < t + n) → certs (t + length (certs_from certs n t)) ≡ None
  listed_ends zero t below = nobody (t + 0) (λ c is. omega (arith, below (t + 0) c is))
  listed_ends (suc n) t below = of_here (certs t) refl (listed_ends n (suc t) (λ j d is. omega (arith, below j d is)))
    where
      of_here : (o : Option (Cert V)) → certs t ≡ o → certs (suc t + length (certs_from certs n (suc t))) ≡ None → certs (t + length (cert_then (certs_from certs n (suc t)) o)) ≡ None
      of_here None here later = let e : t + 0 ≡ t = omega arith in ap certs e ∙ here
      of_here (Some c) here later =
          let e : t + suc (length (certs_from certs n (suc t))) ≡ suc t + length (certs_from certs n (suc t)) = omega arith in
          ap certs e ∙ later

module _ {V : Type 0} where
  pub of_view_in : (kept : List (Kept V)) (w : ℕ) (c : Change V) → Contains (of_view kept w) c → (u : Kept V) × Contains kept u × (u.view ≡ w) × (u.change ≡ c)
  of_view_in [] w c is = absurd (Contains-none c is)
  of_view_in (u ∷ kept) w c is =
      elim (cases_Bool (u.view == w)) [
        | inl same ↦ elim (Contains-cons_cases u.change (of_view kept w) c (rw same at is)) [
          | inl e ↦ (u, Contains-head u kept, (Decides-eqb u.view w).0 same, e)
          | inr more ↦ let r = of_view_in kept w c more in (r.0, Contains-tail u r.0 kept r.1, r.2, r.3)
        ]
        | inr other ↦ let r = of_view_in kept w c (rw other at is) in (r.0, Contains-tail u r.0 kept r.1, r.2, r.3)
      ]

  of_view_distinct : (kept : List (Kept V)) (w : ℕ) → IsDistinct nat_eq (map (λ u. u.change.by) kept) → IsDistinct nat_eq (map (λ c. c.by) (of_view kept w))
  unfolding IsDistinct
  of_view_distinct [] w d = tt
  of_view_distinct (u ∷ kept) w d =
      elim (cases_Bool (u.view == w)) [
        | inl same ↦
            let out = out_apart u.change.by (map (λ c. c.by) (of_view kept w)) (λ is.
            let c = Contains-map_cases (λ c. c.by) (of_view kept w) u.change.by is in
            let o = of_view_in kept w c.0 c.1 in
            apart_out u.change.by (map (λ u. u.change.by) kept) d.0
            (subst (λ (z : ℕ). Contains (map (λ u. u.change.by) kept) z) (ap (λ z. z.by) o.3 ∙ c.2) (Contains-map (λ u. u.change.by) kept o.0 o.1))) in
            rw same (out, of_view_distinct kept w d.1)
        | inr other ↦ rw other (of_view_distinct kept w d.1)
      ]

module _ {V X : Type 0} (digest : V → X) (goes : List V → V → Bool) (k : ℕ) where
  -- a certificate is of the last slot of values that were prepared in its view
  pub record IsPreparedCert (trace : List (Step V X)) (t : ℕ) (c : Cert V) : Type 0 where
    pub values : List V
    pub is_in : Contains trace (prepares c.at values)
    pub slot : length values ≡ suc t
    pub there : slice_get values t ≡ Some c.value

  cert_here : (v : ℕ) (h : List V) (trace : List (Step V X)) (t : ℕ) (c : Cert V) → suc t ≡ length h → cert_at (with_cert v h (state_of trace).certs) t ≡ Some c → IsPreparedCert (prepares v h ∷ trace) t c
  cert_here v h trace t c len is =
      let there = slice_get_there h t (omega (arith, len)) in
      let e : ◌≡◌ {A = Cert V} (record { at = v; value = there.0 }) c =
      same_Some (record { at = v; value = there.0 }) c (sym (with_cert-last v h (state_of trace).certs t there.0 len there.1) ∙ is) in
      subst (λ (d : Cert V). IsPreparedCert (prepares v h ∷ trace) t d) e (record { values = h; is_in = Contains-head (prepares v h) trace; slot = sym len; there = there.1 })

  cert_more : (step : Step V X) (trace : List (Step V X)) (t : ℕ) (c : Cert V) → IsPreparedCert trace t c → IsPreparedCert (step ∷ trace) t c
  cert_more step trace t c is = record { values = is.values; is_in = Contains-tail step (prepares c.at is.values) trace is.is_in; slot = is.slot; there = is.there }

  pub cert_prepared : (trace : List (Step V X)) (t : ℕ) (c : Cert V) → cert_at (state_of trace).certs t ≡ Some c → IsPreparedCert trace t c
  cert_prepared [] t c is = absurd (none-some c is)
  cert_prepared (accepts n value ∷ trace) t c is = cert_more _ trace t c (cert_prepared trace t c is)
  cert_prepared (signs v n x ∷ trace) t c is = cert_more _ trace t c (cert_prepared trace t c is)
  cert_prepared (prepares v h ∷ trace) t c is =
      elim (cases_Bool (suc t == length h)) [
        | inl same ↦ cert_here v h trace t c ((Decides-eqb (suc t) (length h)).0 same) is
        | inr other ↦
            let differ : suc t ≡ length h → ⊥ = λ len. absurd (cc (other, (Decides-eqb (suc t) (length h)).1 len)) in
            cert_more _ trace t c (cert_prepared trace t c (sym (with_cert-other v h (state_of trace).certs t differ) ∙ is))
      ]
  cert_prepared (changes w entries ∷ trace) t c is = cert_more _ trace t c (cert_prepared trace t c is)
  cert_prepared (enters w vcs chosen ∷ trace) t c is = cert_more _ trace t c (cert_prepared trace t c is)
  cert_prepared (executes v n value ∷ trace) t c is = cert_more _ trace t c (cert_prepared trace t c is)

  -- so it is of a slot there is, and of no later view
  cert_within : (trace : List (Step V X)) (t : ℕ) (c : Cert V) → Follows digest goes k trace → cert_at (state_of trace).certs t ≡ Some c → (c.at ≤ (state_of trace).view) × (t ≤ k)
  cert_within trace t c lawful is =
      let p = cert_prepared trace t c is in
      (views_below digest goes k trace (prepares c.at p.values) lawful p.is_in, omega (arith, p.slot, (prepared_fit digest goes k trace c.at p.values lawful p.is_in).0))

  -- leaving for a higher view is allowed
  pub leave_can : (trace : List (Step V X)) (w : ℕ) → Follows digest goes k trace → (state_of trace).view < w → Can digest goes k (state_of trace) (leave digest k (state_of trace) w)
  leave_can trace w lawful lt =
      let certs = cert_at (state_of trace).certs in
      let from = certs_from (cert_at (state_of trace).certs) (suc k) 0 in (
        lt,
        record {
          each = λ t e is.
              let c = nth_map (entry_of digest) from t e is in
              let at : certs (0 + t) ≡ Some c.0 = listed certs (suc k) 0 t c.0 c.1 in
              let zero_less : t ≡ 0 + t = omega arith in
              (c.0, ap certs zero_less ∙ at, sym c.2);
          ends =
              let zero_less : length (map (entry_of digest) from) ≡ 0 + length from = omega (arith, length-map from (entry_of digest)) in
              ap certs zero_less ∙ listed_ends certs (suc k) 0 (λ j c is. omega (arith, (cert_within trace j c lawful is).1));
        },
      )

  -- and entering one, from VIEW-CHANGEs whatever they are
  pub enter_can : (s : State V) (w : ℕ) (vcs : List (Change V)) → ((s.view < w) ⊎ ((s.view ≡ w) × (s.changing ≡ true))) → Can digest goes k s (enter {V = V} {X = X} goes k w vcs)
  enter_can s w vcs may = (may, chosen_of-IsChosen goes k vcs)

  module _ (f : ℕ) (Source : ℕ → V → Type 0) (acts : List (LockAct V X)) (me : ℕ) where
    -- a replica's own VIEW-CHANGE fits
    pub own_fits : (trace : List (Step V X)) (w : ℕ) → Follows digest goes k trace → ((step : Step V X) → Contains trace step → Backs digest f Source acts me step) → (state_of trace).view < w
        → (t : ℕ) (cert : Cert V) → slice_get (own_change k me (state_of trace)).certs t ≡ Some cert → IsOlder cert.at w × KnowsQuorum digest f acts me (λ q. Prepare q cert.at t (digest cert.value))
    own_fits trace w lawful backed lt t cert is =
        let zero_less : t ≡ 0 + t = omega arith in
        let has : cert_at (state_of trace).certs t ≡ Some cert = ap (cert_at (state_of trace).certs) zero_less ∙ listed (cert_at (state_of trace).certs) (suc k) 0 t cert is in
        let p = cert_prepared trace t cert has in
        (omega (arith, (cert_within trace t cert lawful has).0, lt), backed (prepares cert.at p.values) p.is_in t cert.value p.slot p.there)

module _ {V X : Type 0} (digest : V → X) (f : ℕ) (acts : List (LockAct V X)) (me : ℕ) where
  -- 2f + 1 kept VIEW-CHANGEs for the view are what entering it rests on
  pub lowest_known : (kept : List (Kept V)) (w : ℕ) → AreKeptChanges digest f acts me kept → quorum f ≤ length (of_view kept w) → KnowsChanges digest f acts me w (lowest f kept w)
  lowest_known kept w are many =
      let all = of_view kept w in
      let in_all = λ (c : Change V) (is : Contains (lowest f kept w) c). of_view_in kept w c (Contains-take (quorum f) all c is) in
      record {
        replicas = record {
          distinct = subst (λ (l : List ℕ). IsDistinct nat_eq l) (sym (map_take (λ (c : Change V). c.by) (quorum f) all)) (take_distinct (quorum f) (map (λ c. c.by) all) (of_view_distinct kept w are.once));
          within = λ r is.
              let c = Contains-map_cases (λ (c : Change V). c.by) (lowest f kept w) r is in
              let u = in_all c.0 c.1 in
              subst (λ (z : ℕ). z < 3 * f + 1) (ap (λ z. z.by) u.3 ∙ c.2) (are.within u.0 u.1);
        };
        enough = length-take-le (quorum f) all many;
        signed = λ c is.
            let u = in_all c is in
            subst (λ (z : Change V). Knows digest acts me (ViewChange z.by w (map (entry_of digest) z.certs))) u.3
            (subst (λ (j : ℕ). Knows digest acts me (ViewChange u.0.change.by j (map (entry_of digest) u.0.change.certs))) u.2 (are.known u.0 u.1));
        fits = λ c is t cert there.
            let u = in_all c is in
            let r = are.fits u.0 u.1 t cert (subst (λ (z : Change V). slice_get z.certs t ≡ Some cert) (sym u.3) there) in
            (omega (arith, r.0, u.2), r.1);
      }
