-- The certificates of slots, as a list.
use Rattle.std.proofs.Common.{◌≡◌, ℕ, zero, suc, ◌+◌, ◌-◌, ◌<◌, Some, None, Option, List, [], ◌∷◌, ◌++◌, length, refl, sym, ap, ◌∙◌, arith, append_assoc}
use Rattle.std.specs.Prelude.{slice_get, slice_set}
use Rattle.std.proofs.lemmas.List.{append-nil}
use Rattle.ab_lock.specs.Steps.{Cert, cert_at, set_cert}
use Rattle.ab_lock.specs.ViewChanges.{cert_then, certs_from}
use Rattle.ab_msg.specs.declared.value.Value.{Value}

pub cert_there : (certs : List (Option (Cert Value))) (t : ℕ) (c : Option (Cert Value)) → slice_get certs t ≡ Some c → c ≡ cert_at certs t
cert_there [] t c is = absurd (cc is)
cert_there (d ∷ certs) zero c is = cc
cert_there (d ∷ certs) (suc t) c is = cert_there certs t c is

pub cert_none : (certs : List (Option (Cert Value))) (t : ℕ) → slice_get certs t ≡ None → None ≡ cert_at certs t
cert_none [] t is = refl
cert_none (d ∷ certs) zero is = absurd (cc is)
cert_none (d ∷ certs) (suc t) is = cert_none certs t is

pub cert_gap : (t : ℕ) (c : Cert Value) (certs : List (Option (Cert Value))) → length certs < t → set_cert t c (certs ++ None ∷ []) ≡ set_cert t c certs
cert_gap zero c certs lt = absurd (omega arith)
cert_gap (suc t) c [] lt = refl
cert_gap (suc t) c (d ∷ certs) lt = ap (λ l. d ∷ l) (cert_gap t c certs (omega arith))

pub cert_end : (t : ℕ) (c : Cert Value) (certs : List (Option (Cert Value))) → length certs ≡ t → certs ++ Some c ∷ [] ≡ set_cert t c certs
cert_end zero c [] is = refl
cert_end zero c (d ∷ certs) is = absurd (omega arith)
cert_end (suc t) c [] is = absurd (omega arith)
cert_end (suc t) c (d ∷ certs) is = ap (λ l. d ∷ l) (cert_end t c certs (omega arith))

pub cert_in : (t : ℕ) (c : Cert Value) (certs : List (Option (Cert Value))) → t < length certs → slice_set certs t (Some c) ≡ set_cert t c certs
cert_in t c [] lt = absurd (omega arith)
cert_in zero c (d ∷ certs) lt = refl
cert_in (suc t) c (d ∷ certs) lt = ap (λ l. d ∷ l) (cert_in t c certs (omega arith))

-- ---- the certificates from slot 0 on

minus_suc : (n t : ℕ) → t < n → n - t ≡ suc (n - (t + 1))
minus_suc n t lt = omega arith

module _ (f : ℕ → Option (Cert Value)) where
  from_some : (n t : ℕ) (c : Cert Value) → f t ≡ Some c → certs_from f (suc n) t ≡ c ∷ certs_from f n (suc t)
  from_some n t c is = ap (cert_then (certs_from f n (suc t))) is

  from_none : (n t : ℕ) → f t ≡ None → certs_from f (suc n) t ≡ []
  from_none n t is = ap (cert_then (certs_from f n (suc t))) is

  pub front_more : (n t : ℕ) (c : Cert Value) (front : List (Cert Value)) → t < n → f t ≡ Some c → certs_from f n 0 ≡ front ++ certs_from f (n - t) t
      → certs_from f n 0 ≡ (front ++ c ∷ []) ++ certs_from f (n - (t + 1)) (t + 1)
  front_more n t c front lt is so_far =
      let next : suc t ≡ t + 1 = omega arith in
      so_far
      ∙ (ap (λ m. front ++ certs_from f m t) (minus_suc n t lt)
      ∙ (ap (λ l. front ++ l) (from_some (n - (t + 1)) t c is)
      ∙ (ap (λ u. front ++ c ∷ certs_from f (n - (t + 1)) u) next
      ∙ sym (append_assoc front (c ∷ []) (certs_from f (n - (t + 1)) (t + 1))))))

  pub front_ends : (n t : ℕ) (front : List (Cert Value)) → t < n → f t ≡ None → certs_from f n 0 ≡ front ++ certs_from f (n - t) t → front ≡ certs_from f n 0
  front_ends n t front lt is so_far =
      sym (so_far ∙ (ap (λ m. front ++ certs_from f m t) (minus_suc n t lt) ∙ (ap (λ l. front ++ l) (from_none (n - (t + 1)) t is) ∙ append-nil front)))
