-- The certificates of a replica, by their slots.
use Rattle.std.proofs.Common.{◌≡◌, ℕ, zero, suc, pred, Some, None, Option, List, [], ◌∷◌, length, slice_get, refl, ap, sym, subst}
use Rattle.ab_lock.specs.Steps.{Cert, cert_at, set_cert, set_value, with_cert}

module _ {V : Type 0} where
  set_cert-here : (t : ℕ) (c : Cert V) (certs : List (Option (Cert V))) → cert_at (set_cert t c certs) t ≡ Some c
  set_cert-here zero c [] = refl
  set_cert-here zero c (d ∷ certs) = refl
  set_cert-here (suc t) c [] = set_cert-here t c []
  set_cert-here (suc t) c (d ∷ certs) = set_cert-here t c certs

  set_cert-other : (t u : ℕ) (c : Cert V) (certs : List (Option (Cert V))) → (t ≡ u → ⊥) → cert_at (set_cert t c certs) u ≡ cert_at certs u
  set_cert-other zero zero c certs differ = absurd (differ refl)
  set_cert-other zero (suc u) c [] differ = refl
  set_cert-other zero (suc u) c (d ∷ certs) differ = refl
  set_cert-other (suc t) zero c [] differ = refl
  set_cert-other (suc t) zero c (d ∷ certs) differ = refl
  set_cert-other (suc t) (suc u) c [] differ = set_cert-other t u c [] (λ e. differ (ap suc e))
  set_cert-other (suc t) (suc u) c (d ∷ certs) differ = set_cert-other t u c certs (λ e. differ (ap suc e))

  -- once the last of h is prepared its slot has this certificate
  pub with_cert-last : (v : ℕ) (h : List V) (certs : List (Option (Cert V))) (t : ℕ) (value : V) → suc t ≡ length h → slice_get h t ≡ Some value
      → cert_at (with_cert v h certs) t ≡ Some (record { at = v; value = value })
  with_cert-last v h certs t value len is =
      let last : t ≡ pred (length h) = ap pred len in
      subst (λ (n : ℕ). cert_at (set_value v n (slice_get h n) certs) t ≡ Some (record { at = v; value = value })) last (rw is (set_cert-here t (record { at = v; value = value }) certs))

  -- and each other slot the one before
  pub with_cert-other : (v : ℕ) (h : List V) (certs : List (Option (Cert V))) (t : ℕ) → (suc t ≡ length h → ⊥) → cert_at (with_cert v h certs) t ≡ cert_at certs t
  with_cert-other v [] certs t differ = refl
  with_cert-other v (x ∷ h) certs t differ = of (slice_get (x ∷ h) (length h))
    where
      of : (o : Option V) → cert_at (set_value v (length h) o certs) t ≡ cert_at certs t
      of None = refl
      of (Some value) = set_cert-other (length h) t (record { at = v; value = value }) certs (λ e. differ (ap suc (sym e)))
