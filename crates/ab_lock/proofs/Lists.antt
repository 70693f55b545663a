-- Places of lists.
use Rattle.std.proofs.Common.{◌≡◌, ℕ, zero, suc, ◌<◌, ◌≤◌, Some, List, [], ◌∷◌, ◌++◌, ◌⊎◌, length, take, slice_get, map, refl, sym, ap, ◌∙◌, subst, inl, inr, arith}
use Rattle.std.specs.Prelude.{Contains}
use Rattle.std.proofs.lemmas.Option.{none-some, same_Some}
use Rattle.ab_num.proofs.Lists.{Contains-head, Contains-tail, Contains-cons_cases, Contains-none}

module _ {A : Type 0} where
  pub first_in : (xs : List A) → 1 ≤ length xs → (x : A) × Contains xs x
  first_in [] some = absurd (omega arith)
  first_in (x ∷ xs) some = (x, Contains-head x xs)

  pub nth_same : (xs ys : List A) → length xs ≡ length ys → ((t : ℕ) → t < length xs → slice_get xs t ≡ slice_get ys t) → xs ≡ ys
  nth_same [] [] len each = refl
  nth_same [] (y ∷ ys) len each = absurd (omega arith)
  nth_same (x ∷ xs) [] len each = absurd (omega arith)
  nth_same (x ∷ xs) (y ∷ ys) len each =
      ap (λ z. z ∷ xs) (same_Some x y (each 0 (omega arith))) ∙ ap (λ zs. y ∷ zs) (nth_same xs ys (omega arith) (λ t lt. each (suc t) (omega arith)))

  -- one more of both
  pub take_same : (t : ℕ) (xs ys : List A) (x : A) → take t xs ≡ take t ys → slice_get xs t ≡ Some x → slice_get ys t ≡ Some x → take (suc t) xs ≡ take (suc t) ys
  take_same t [] ys x e here there = absurd (none-some x here)
  take_same t (y ∷ xs) [] x e here there = absurd (none-some x there)
  take_same zero (y ∷ xs) (z ∷ ys) x e here there = ap (λ w. w ∷ []) (same_Some y x here ∙ sym (same_Some z x there))
  take_same (suc t) (y ∷ xs) (z ∷ ys) x e here there =
      let heads : Some y ≡ Some z = ap (λ l. slice_get l 0) e in
      let tails : take t xs ≡ take t ys = take_tails t xs ys y z e in
      ap (λ w. w ∷ take (suc t) xs) (same_Some y z heads) ∙ ap (λ ws. z ∷ ws) (take_same t xs ys x tails here there)
    where
      take_tails : (t : ℕ) (xs ys : List A) (y z : A) → take (suc t) (y ∷ xs) ≡ take (suc t) (z ∷ ys) → take t xs ≡ take t ys
      take_tails t xs ys y z e = cc

  -- the last place of a list that grew by one, and the others
  pub nth_grown : (xs : List A) (x : A) (t : ℕ) (y : A) → slice_get (xs ++ (x ∷ [])) t ≡ Some y → ((t < length xs) × (slice_get xs t ≡ Some y)) ⊎ ((t ≡ length xs) × (y ≡ x))
  nth_grown [] x zero y e = inr (refl, sym (same_Some x y e))
  nth_grown [] x (suc t) y e = absurd (none-some y e)
  nth_grown (z ∷ xs) x zero y e = inl (omega arith, e)
  nth_grown (z ∷ xs) x (suc t) y e =
      elim (nth_grown xs x t y e) [
        | inl old ↦ inl (omega (arith, old.0), old.1)
        | inr new ↦ inr (omega (arith, new.0), new.1)
      ]

  pub nth_still : (xs ys : List A) (t : ℕ) (y : A) → slice_get xs t ≡ Some y → slice_get (xs ++ ys) t ≡ Some y
  nth_still [] ys t y e = absurd (none-some y e)
  nth_still (x ∷ xs) ys zero y e = e
  nth_still (x ∷ xs) ys (suc t) y e = nth_still xs ys t y e

  -- what stands among the first m stands there in the whole list
  pub nth_front : (m : ℕ) (xs : List A) (t : ℕ) (y : A) → slice_get (take m xs) t ≡ Some y → slice_get xs t ≡ Some y
  nth_front zero xs t y e = absurd (none-some y e)
  nth_front (suc m) [] t y e = absurd (none-some y e)
  nth_front (suc m) (x ∷ xs) zero y e = e
  nth_front (suc m) (x ∷ xs) (suc t) y e = nth_front m xs t y e

  pub Contains-nth : (xs : List A) (t : ℕ) (x : A) → slice_get xs t ≡ Some x → Contains xs x
  Contains-nth [] t x e = absurd (none-some x e)
  Contains-nth (y ∷ xs) zero x e = (0, omega arith, same_Some y x e)
  Contains-nth (y ∷ xs) (suc t) x e = Contains-tail y x xs (Contains-nth xs t x e)

  pub Contains-take : (m : ℕ) (xs : List A) (y : A) → Contains (take m xs) y → Contains xs y
  Contains-take zero xs y is = absurd (Contains-none y is)
  Contains-take (suc m) [] y is = is
  Contains-take (suc m) (x ∷ xs) y is =
      elim (Contains-cons_cases x (take m xs) y is) [
        | inl e ↦ subst (λ z. Contains (x ∷ xs) z) e (Contains-head x xs)
        | inr more ↦ Contains-tail x y xs (Contains-take m xs y more)
      ]

module _ {A B : Type 0} (g : A → B) where
  pub nth_map : (xs : List A) (t : ℕ) (y : B) → slice_get (map g xs) t ≡ Some y → (x : A) × (slice_get xs t ≡ Some x) × (g x ≡ y)
  nth_map [] t y e = absurd (none-some y e)
  nth_map (x ∷ xs) zero y e = (x, refl, same_Some (g x) y e)
  nth_map (x ∷ xs) (suc t) y e = nth_map xs t y e

  pub map_take : (m : ℕ) (xs : List A) → map g (take m xs) ≡ take m (map g xs)
  map_take zero xs = refl
  map_take (suc m) [] = refl
  map_take (suc m) (x ∷ xs) = ap (λ ys. g x ∷ ys) (map_take m xs)
