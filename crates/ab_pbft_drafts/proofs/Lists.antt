-- Places of lists.
use Rattle.std.proofs.Common.{◌≡◌, ℕ, zero, suc, ◌≤◌, Some, List, [], ◌∷◌, ◌⊎◌, length, take, set, slice_get, map, refl, ap, inl, inr, arith}
use Rattle.std.proofs.lemmas.Option.{none-some, same_Some}

module _ {A : Type 0} where
  -- one place is set
  pub nth_set : (xs : List A) (i : ℕ) (x : A) (t : ℕ) (y : A) → slice_get (set xs i x) t ≡ Some y → ((t ≡ i) × (x ≡ y)) ⊎ ((t ≡ i → ⊥) × (slice_get xs t ≡ Some y))
  nth_set [] i x t y is = absurd (none-some y is)
  nth_set (z ∷ xs) zero x zero y is = inl (refl, same_Some x y is)
  nth_set (z ∷ xs) zero x (suc t) y is = inr (λ e. omega (arith, e), is)
  nth_set (z ∷ xs) (suc i) x zero y is = inr (λ e. omega (arith, e), is)
  nth_set (z ∷ xs) (suc i) x (suc t) y is =
      elim (nth_set xs i x t y is) [
        | inl here ↦ inl (ap suc here.0, here.1)
        | inr other ↦ inr (λ e. other.0 (omega (arith, e)), other.1)
      ]

  pub some_taken : (n : ℕ) (xs : List A) → 1 ≤ length xs → 1 ≤ length (take (suc n) xs)
  some_taken n [] some = absurd (omega (arith, some))
  some_taken n (x ∷ xs) some = omega arith

  pub few_taken : (n : ℕ) (xs : List A) → length (take n xs) ≤ n
  few_taken zero xs = omega arith
  few_taken (suc n) [] = omega arith
  few_taken (suc n) (x ∷ xs) = omega (arith, few_taken n xs)

  pub nth_mapped : {B : Type 0} (g : A → B) (xs : List A) (t : ℕ) (x : A) → slice_get xs t ≡ Some x → slice_get (map g xs) t ≡ Some (g x)
  nth_mapped g [] t x is = absurd (none-some x is)
  nth_mapped g (y ∷ xs) zero x is = ap (λ z. Some (g z)) (same_Some y x is)
  nth_mapped g (y ∷ xs) (suc t) x is = nth_mapped g xs t x is
