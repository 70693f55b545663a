-- Requests that wait.
use Rattle.std.proofs.Common.{◌≡◌, ◌⊎◌, ℕ, suc, ◌≤◌, true, false, List, [], ◌∷◌, length, refl, ap, ◌∙◌, inl, inr, arith}
use Rattle.std.specs.Prelude.{nat_lt, slice_get, slice_set}
use Rattle.std.specs.List.{insert, take_while}
use Rattle.std.proofs.lemmas.List.Sums.{take_while-cons}
use Rattle.std.proofs.lemmas.Bool.{cases_Bool}
use Rattle.ab_num.proofs.Tests.{nat_lt-turned, nat_lt-above, nat_lt-same}
use Rattle.ab_hist.specs.declared.request.Request.{Request}
use Rattle.ab_order.specs.Backups.{keep}
use Rattle.ab_slots.specs.Places.{place_of, is_of}

pub client_counted : (client : ℕ) (kept : List Request) → length (take_while (λ m. nat_lt m.client client) kept) ≡ place_of client kept
client_counted client [] = refl
client_counted client (m ∷ kept) =
    elim (cases_Bool (nat_lt m.client client)) [
      | inl lower ↦ ap length (take_while-cons (λ (o : Request). nat_lt o.client client) m kept) ∙ rw lower (ap suc (client_counted client kept))
      | inr other ↦ ap length (take_while-cons (λ (o : Request). nat_lt o.client client) m kept) ∙ rw other refl
    ]

pub client_within : (client : ℕ) (kept : List Request) → place_of client kept ≤ length kept
client_within client [] = omega arith
client_within client (m ∷ kept) =
    elim (cases_Bool (nat_lt m.client client)) [
      | inl lower ↦ rw lower (omega (arith, client_within client kept))
      | inr other ↦ rw other (omega arith)
    ]

-- the first of a client
pub keep_new : (m : Request) (kept : List Request) → is_of m.client (slice_get kept (place_of m.client kept)) ≡ false → insert kept (place_of m.client kept) m ≡ keep m kept
keep_new m [] none = refl
keep_new m (o ∷ kept) none = of (keep_new m kept) (cases_Bool (nat_lt o.client m.client))
  where
    of : (is_of m.client (slice_get kept (place_of m.client kept)) ≡ false → insert kept (place_of m.client kept) m ≡ keep m kept) → ((nat_lt o.client m.client ≡ true) ⊎ (nat_lt o.client m.client ≡ false)) → insert (o ∷ kept) (place_of m.client (o ∷ kept)) m ≡ keep m (o ∷ kept)
    of rest (inl lower) =
        let a = nat_lt-turned o.client m.client lower in
        rw (lower, a) (ap (λ l. o ∷ l) (rest (rw lower at none)))
    of rest (inr other) =
        let c = nat_lt-above o.client m.client other (rw other at none) in
        rw (other, c) refl

-- and one in place of another
pub keep_there : (m : Request) (kept : List Request) → is_of m.client (slice_get kept (place_of m.client kept)) ≡ true → slice_set kept (place_of m.client kept) m ≡ keep m kept
keep_there m [] there = absurd (cc there)
keep_there m (o ∷ kept) there = of (keep_there m kept) (cases_Bool (nat_lt o.client m.client))
  where
    of : (is_of m.client (slice_get kept (place_of m.client kept)) ≡ true → slice_set kept (place_of m.client kept) m ≡ keep m kept) → ((nat_lt o.client m.client ≡ true) ⊎ (nat_lt o.client m.client ≡ false)) → slice_set (o ∷ kept) (place_of m.client (o ∷ kept)) m ≡ keep m (o ∷ kept)
    of rest (inl lower) =
        let a = nat_lt-turned o.client m.client lower in
        rw (lower, a) (ap (λ l. o ∷ l) (rest (rw lower at there)))
    of rest (inr other) =
        let c = nat_lt-same o.client m.client (rw other at there) in
        rw (other, c) refl
