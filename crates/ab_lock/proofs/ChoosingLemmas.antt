-- The chosen values are chosen.
use Rattle.std.proofs.Common.{◌≡◌, ℕ, zero, suc, ◌+◌, ◌≤◌, Bool, true, false, Option, Some, None, List, [], ◌∷◌, ◌++◌, length, take, slice_get, refl, sym, ap, ◌∙◌, subst, inl, inr, arith, length-append}
use Rattle.std.specs.Prelude.{Contains}
use Rattle.std.proofs.lemmas.Bool.{cases_Bool}
use Rattle.std.proofs.lemmas.Bool.Decides.{nat_tests}
use Rattle.std.proofs.lemmas.Option.{none-some, same_Some}
use Rattle.ab_lock.specs.Steps.{Cert, Change, IsBest, Ends, full, none, unfit, IsChosen}
use Rattle.ab_lock.specs.Choosing.{Offer, beats, better, best_in, goes_on, chosen_from, chosen_of}
use Rattle.ab_lock.proofs.Lists.{nth_grown}
use Rattle.std.proofs.Math.Seq.{take-length}
use Rattle.std.proofs.lemmas.List.{take-append-le}
use Rattle.ab_num.proofs.Lists.{Contains-head, Contains-tail, Contains-cons_cases, Contains-none}

module _ {V : Type 0} where
  beats_le : (a b : Offer V) → beats a b ≡ true → b.cert.at ≤ a.cert.at
  beats_le a b is = grind (arith, nat_tests)

  not_beats_le : (a b : Offer V) → beats a b ≡ false → a.cert.at ≤ b.cert.at
  not_beats_le a b is = grind (arith, nat_tests)

  -- no certificate, or one that is the best
  pub data IsBestIn (vcs : List (Change V)) (t : ℕ) : Option (Offer V) → Type 0 where
    nobody : ((other : Change V) → Contains vcs other → slice_get other.certs t ≡ None) → IsBestIn vcs t None
    best : (offer : Offer V) (change : Change V) → Contains vcs change → slice_get change.certs t ≡ Some offer.cert
        → ((other : Change V) → Contains vcs other → (c : Cert V) → slice_get other.certs t ≡ Some c → c.at ≤ offer.cert.at) → IsBestIn vcs t (Some offer)

  -- with one more VIEW-CHANGE
  best_more : (c : Change V) (vcs : List (Change V)) (t : ℕ) (here : Option (Cert V)) (rest : Option (Offer V)) → slice_get c.certs t ≡ here → IsBestIn vcs t rest → IsBestIn (c ∷ vcs) t (better c.by here rest)
  best_more c vcs t None None is (nobody out) = nobody (λ other at.
      elim (Contains-cons_cases c vcs other at) [
        | inl e ↦ subst (λ (z : Change V). slice_get z.certs t ≡ None) e is
        | inr more ↦ out other more
      ])
  best_more c vcs t None (Some o) is (best offer change there stands high) = best offer change (Contains-tail c change vcs there) stands (λ other at d has.
      elim (Contains-cons_cases c vcs other at) [
        | inl e ↦ absurd (none-some d (sym is ∙ subst (λ (z : Change V). slice_get z.certs t ≡ Some d) (sym e) has))
        | inr more ↦ high other more d has
      ])
  best_more c vcs t (Some cert) None is (nobody out) = best (record { by = c.by; cert = cert }) c (Contains-head c vcs) is (λ other at d has.
      elim (Contains-cons_cases c vcs other at) [
        | inl e ↦ let same : cert ≡ d = same_Some cert d (sym is ∙ subst (λ (z : Change V). slice_get z.certs t ≡ Some d) (sym e) has) in omega (arith, ap (λ z. z.at) same)
        | inr more ↦ absurd (none-some d (sym (out other more) ∙ has))
      ])
  best_more c vcs t (Some cert) (Some o) is (best offer change there stands high) =
      elim (cases_Bool (beats (record { by = c.by; cert = cert }) offer)) [
        | inl wins ↦ rw wins (best (record { by = c.by; cert = cert }) c (Contains-head c vcs) is (λ other at d has.
            elim (Contains-cons_cases c vcs other at) [
              | inl e ↦ let same : cert ≡ d = same_Some cert d (sym is ∙ subst (λ (z : Change V). slice_get z.certs t ≡ Some d) (sym e) has) in omega (arith, ap (λ z. z.at) same)
              | inr more ↦ omega (arith, high other more d has, beats_le (record { by = c.by; cert = cert }) offer wins)
            ]))
        | inr loses ↦ rw loses (best offer change (Contains-tail c change vcs there) stands (λ other at d has.
            elim (Contains-cons_cases c vcs other at) [
              | inl e ↦
                  let same : cert ≡ d = same_Some cert d (sym is ∙ subst (λ (z : Change V). slice_get z.certs t ≡ Some d) (sym e) has) in
                  omega (arith, ap (λ z. z.at) same, not_beats_le (record { by = c.by; cert = cert }) offer loses)
              | inr more ↦ high other more d has
            ]))
      ]

  best_is : (vcs : List (Change V)) (t : ℕ) → IsBestIn vcs t (best_in vcs t)
  best_is [] t = nobody (λ other at. absurd (Contains-none other at))
  best_is (c ∷ vcs) t = best_more c vcs t (slice_get c.certs t) (best_in vcs t) refl (best_is vcs t)

  -- what is chosen so far
  record IsSoFar (goes : List V → V → Bool) (vcs : List (Change V)) (chosen : List V) : Type 0 where
    best : (t : ℕ) (value : V) → slice_get chosen t ≡ Some value → IsBest vcs t value
    fits : (t : ℕ) (value : V) → slice_get chosen t ≡ Some value → goes (take t chosen) value ≡ true

  module _ (goes : List V → V → Bool) (k : ℕ) (vcs : List (Change V)) where
    one_more : (chosen : List V) (value : V) → IsSoFar goes vcs chosen → IsBest vcs (length chosen) value → goes chosen value ≡ true → IsSoFar goes vcs (chosen ++ (value ∷ []))
    one_more chosen value so_far is on = record {
      best = λ t y e. elim (nth_grown chosen value t y e) [
        | inl old ↦ so_far.best t y old.1
        | inr new ↦ subst (λ (n : ℕ). IsBest vcs n y) (sym new.0) (subst (λ (z : V). IsBest vcs (length chosen) z) (sym new.1) is)
      ];
      fits = λ t y e. elim (nth_grown chosen value t y e) [
        | inl old ↦ ap (λ l. goes l y) (take-append-le t chosen (value ∷ []) (omega (arith, old.0))) ∙ so_far.fits t y old.1
        | inr new ↦
            ap (λ l. goes l y) (ap (λ n. take n (chosen ++ (value ∷ []))) new.0 ∙ (take-append-le (length chosen) chosen (value ∷ []) (omega arith) ∙ take-length chosen))
            ∙ (ap (λ z. goes chosen z) new.1 ∙ on)
      ];
    }

    ended : (chosen : List V) → length chosen ≤ suc k → IsSoFar goes vcs chosen → Ends goes k vcs chosen → IsChosen goes k vcs chosen
    ended chosen le so_far ends = record { best = so_far.best; fits = so_far.fits; within = le; ends = ends }

    goes_chosen : (rest : List V → List V) (chosen : List V) (offer : Option (Offer V)) → length chosen ≤ k
        → ((longer : List V) → length longer ≡ suc (length chosen) → IsSoFar goes vcs longer → IsChosen goes k vcs (rest longer))
        → IsSoFar goes vcs chosen → IsBestIn vcs (length chosen) offer → IsChosen goes k vcs (goes_on goes rest chosen offer)
    goes_chosen rest chosen None le further so_far (nobody out) = ended chosen (omega arith) so_far (none out)
    goes_chosen rest chosen (Some o) le further so_far (best offer change there stands high) =
        let is : IsBest vcs (length chosen) offer.cert.value = record { change = change; is_in = there; cert = offer.cert; stands = stands; value_is = refl; highest = high } in
        elim (cases_Bool (goes chosen offer.cert.value)) [
          | inl on ↦ rw on (further (chosen ++ (offer.cert.value ∷ [])) (omega (arith, length-append chosen (offer.cert.value ∷ []))) (one_more chosen offer.cert.value so_far is on))
          | inr off ↦ rw off (ended chosen (omega arith) so_far (unfit offer.cert.value is off))
        ]

    from_chosen : (n : ℕ) (chosen : List V) → length chosen + n ≡ suc k → IsSoFar goes vcs chosen → IsChosen goes k vcs (chosen_from goes vcs n chosen)
    from_chosen zero chosen len so_far = ended chosen (omega arith) so_far (full (omega (arith, len)))
    from_chosen (suc n) chosen len so_far =
        goes_chosen (chosen_from goes vcs n) chosen (best_in vcs (length chosen)) (omega (arith, len)) (λ longer more so. from_chosen n longer (omega (arith, len, more)) so) so_far (best_is vcs (length chosen))

    pub chosen_of-IsChosen : IsChosen goes k vcs (chosen_of goes k vcs)
    chosen_of-IsChosen = from_chosen (suc k) [] (omega arith) (record { best = λ t value e. absurd (none-some value e); fits = λ t value e. absurd (none-some value e) })
