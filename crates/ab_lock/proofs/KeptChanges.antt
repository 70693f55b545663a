-- Keeping one more VIEW-CHANGE.
use Rattle.std.proofs.Common.{◌≡◌, ℕ, ◌+◌, ◌*◌, ◌<◌, ◌==◌, false, Some, List, [], ◌∷◌, ◌⊎◌, slice_get, map, refl, sym, ap, ◌∙◌, subst, inl, inr, arith}
use Rattle.std.specs.Prelude.{Contains, nat_eq, nat_lt, if◌then◌else◌}
use Rattle.std.specs.List.{IsDistinct}
use Rattle.std.proofs.lemmas.Bool.{cases_Bool, ltb-true}
use Rattle.std.proofs.lemmas.Bool.Decides.{nat_tests, Decides-eqb}
use Rattle.ab_num.proofs.Lists.{Contains-head, Contains-tail, Contains-cons_cases, Contains-none, Contains-map_cases}
use Rattle.ab_lock.specs.Quorums.{IsOlder}
use Rattle.ab_lock.specs.Steps.{Cert, entry_of}
use Rattle.ab_lock.specs.Acts.{Prepare, ViewChange, LockAct, Knows, KnowsQuorum}
use Rattle.ab_lock.specs.ViewChanges.{Kept, put, IsRising}
use Rattle.ab_abs.proofs.Quorums.{out_apart}
use Rattle.ab_lock.proofs.ActLemmas.{Knows-more, quorum_more}
use Rattle.ab_lock.specs.Standing.{AreKeptChanges}

gt_of : (a b : ℕ) → nat_lt a b ≡ false → (a == b) ≡ false → b < a
gt_of a b h e = grind (arith, nat_tests)

module _ {V : Type 0} where
  higher : (u w : Kept V) → ((if nat_lt w.view u.view then u else w) ≡ u) ⊎ ((if nat_lt w.view u.view then u else w) ≡ w)
  higher u w = elim (cases_Bool (nat_lt w.view u.view)) [ inl is ↦ inl (rw is refl) | inr is ↦ inr (rw is refl) ]

  pub put_in : (u : Kept V) (kept : List (Kept V)) (x : Kept V) → Contains (put u kept) x → (u ≡ x) ⊎ Contains kept x
  put_in u [] x is = elim (Contains-cons_cases u [] x is) [ inl e ↦ inl e | inr more ↦ inr more ]
  put_in u (w ∷ kept) x is =
      elim (cases_Bool (nat_lt u.change.by w.change.by)) [
        | inl below ↦ elim (Contains-cons_cases u (w ∷ kept) x (rw below at is)) [ inl e ↦ inl e | inr more ↦ inr more ]
        | inr not_below ↦ elim (cases_Bool (u.change.by == w.change.by)) [
          | inl same ↦ elim (Contains-cons_cases (if nat_lt w.view u.view then u else w) kept x (rw (not_below, same) at is)) [
            | inl e ↦ elim (higher u w) [
              | inl new ↦ inl (sym new ∙ e)
              | inr old ↦ inr (subst (λ (z : Kept V). Contains (w ∷ kept) z) (sym old ∙ e) (Contains-head w kept))
            ]
            | inr more ↦ inr (Contains-tail w x kept more)
          ]
          | inr other ↦ elim (Contains-cons_cases w (put u kept) x (rw (not_below, other) at is)) [
            | inl e ↦ inr (subst (λ (z : Kept V). Contains (w ∷ kept) z) e (Contains-head w kept))
            | inr more ↦ elim (put_in u kept x more) [
              | inl e ↦ inl e
              | inr there ↦ inr (Contains-tail w x kept there)
            ]
          ]
        ]
      ]

  pub put_rises : (u : Kept V) (kept : List (Kept V)) → IsRising kept → IsRising (put u kept)
  put_rises u [] rising = ((λ x is. absurd (Contains-none x is)), tt)
  put_rises u (w ∷ kept) rising =
      elim (cases_Bool (nat_lt u.change.by w.change.by)) [
        | inl below ↦ rw below (
          (λ x is. elim (Contains-cons_cases w kept x is) [
            | inl e ↦ omega (arith, ltb-true u.change.by w.change.by below, ap (λ z. z.change.by) e)
            | inr more ↦ omega (arith, ltb-true u.change.by w.change.by below, rising.0 x more)
          ]),
          rising,
        )
        | inr not_below ↦ elim (cases_Bool (u.change.by == w.change.by)) [
          | inl same ↦ rw (not_below, same) (
            (λ x is.
                let e : u.change.by ≡ w.change.by = (Decides-eqb u.change.by w.change.by).0 same in
                elim (higher u w) [
                  | inl new ↦ subst (λ (z : Kept V). z.change.by < x.change.by) (sym new) (omega (arith, e, rising.0 x is))
                  | inr old ↦ subst (λ (z : Kept V). z.change.by < x.change.by) (sym old) (rising.0 x is)
                ]),
            rising.1,
          )
          | inr other ↦ rw (not_below, other) (
            (λ x is. elim (put_in u kept x is) [
              | inl e ↦ omega (arith, gt_of u.change.by w.change.by not_below other, ap (λ z. z.change.by) e)
              | inr there ↦ rising.0 x there
            ]),
            put_rises u kept rising.1,
          )
        ]
      ]

  pub rising_once : (kept : List (Kept V)) → IsRising kept → IsDistinct nat_eq (map (λ u. u.change.by) kept)
  unfolding IsDistinct
  rising_once [] rising = tt
  rising_once (u ∷ kept) rising = (
    out_apart u.change.by (map (λ w. w.change.by) kept) (λ is.
        let w = Contains-map_cases (λ w. w.change.by) kept u.change.by is in
        omega (arith, rising.0 w.0 w.1, w.2)),
    rising_once kept rising.1,
  )

module _ {V X : Type 0} (digest : V → X) (f me : ℕ) where
  abbrev Keeps : List (LockAct V X) → List (Kept V) → Type 0
  Keeps acts kept = AreKeptChanges digest f acts me kept

  pub keeps_more : (a : LockAct V X) (acts : List (LockAct V X)) (kept : List (Kept V)) → Keeps acts kept → Keeps (a ∷ acts) kept
  keeps_more a acts kept keeps = record {
    once = keeps.once;
    within = keeps.within;
    known = λ u is. Knows-more digest a acts me _ (keeps.known u is);
    fits = λ u is t cert there. let r = keeps.fits u is t cert there in (r.0, quorum_more digest f a acts me _ r.1);
  }

  -- one more that is known and fits
  pub keeps_put : (acts : List (LockAct V X)) (u : Kept V) (kept : List (Kept V)) → IsRising kept → Keeps acts kept → u.change.by < 3 * f + 1
      → Knows digest acts me (ViewChange u.change.by u.view (map (entry_of digest) u.change.certs))
      → ((t : ℕ) (cert : Cert V) → slice_get u.change.certs t ≡ Some cert → IsOlder cert.at u.view × KnowsQuorum digest f acts me (λ q. Prepare q cert.at t (digest cert.value)))
      → Keeps acts (put u kept)
  keeps_put acts u kept rising keeps lt known fits = record {
    once = rising_once (put u kept) (put_rises u kept rising);
    within = λ x is. elim (put_in u kept x is) [ inl e ↦ subst (λ (z : Kept V). z.change.by < 3 * f + 1) e lt | inr there ↦ keeps.within x there ];
    known = λ x is. elim (put_in u kept x is) [
      | inl e ↦ subst (λ (z : Kept V). Knows digest acts me (ViewChange z.change.by z.view (map (entry_of digest) z.change.certs))) e known
      | inr there ↦ keeps.known x there
    ];
    fits = λ x is. elim (put_in u kept x is) [
      | inl e ↦ subst (λ (z : Kept V). (t : ℕ) (cert : Cert V) → slice_get z.change.certs t ≡ Some cert → IsOlder cert.at z.view × KnowsQuorum digest f acts me (λ q. Prepare q cert.at t (digest cert.value))) e fits
      | inr there ↦ keeps.fits x there
    ];
  }
