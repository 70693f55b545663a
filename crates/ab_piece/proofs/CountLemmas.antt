-- Counts over lists.
use Rattle.std.proofs.Common.{◌≡◌, inl, inr, ℕ, zero, suc, ◌+◌, ◌<◌, ◌≤◌, List, [], ◌∷◌, ◌++◌, length, get_or, Bool, true, false, cond, nat_eq, refl, ap, sym, ◌∙◌, arith}
use Rattle.std.specs.Prelude.{Contains}
use Rattle.std.specs.List.{All, count_by, sum_by, position_or_len}
use Rattle.std.proofs.lemmas.Bool.{cases_Bool, eq-eqb}
use Rattle.std.proofs.lemmas.List.Elements.{All-head, All-tail}
use Rattle.std.proofs.lemmas.List.Sums.{sum_by-append, sum_by-cons, sum_by-remove}
use Rattle.ab_num.proofs.Lists.{count_by-yes, count_by-no}

-- a list in three parts
pub count-seam : {X : Type 0} (p : X → Bool) (front : List X) (x : X) (behind : List X) → count_by p (front ++ x ∷ behind) ≡ count_by p front + (cond (p x) 1 0 + count_by p behind)
count-seam p front x behind = sum_by-append (λ y. cond (p y) 1 0) front (x ∷ behind) ∙ ap (λ n. count_by p front + n) (sum_by-cons (λ y. cond (p y) 1 0) x behind)

-- ---- places

-- where the first that passes is the length, none passes
pub nowhere : {X : Type 0} (p : X → Bool) (xs : List X) → length xs ≤ position_or_len p xs → count_by p xs ≡ 0
nowhere p [] le = refl
nowhere p (x ∷ xs) le =
    elim (cases_Bool (p x)) [
      | inl holds ↦ (let zero_place : suc (length xs) ≤ 0 = rw holds at le in absurd (omega arith))
      | inr fails ↦ (let later : suc (length xs) ≤ 1 + position_or_len p xs = rw fails at le in count_by-no p x xs fails ∙ nowhere p xs (omega arith))
    ]

-- behind a front of which none passes, the first that passes is the one at the seam
pub place-seam : {X : Type 0} (p : X → Bool) (front : List X) (x : X) (behind : List X) → count_by p front ≡ 0 → p x ≡ true → position_or_len p (front ++ x ∷ behind) ≡ length front
place-seam p [] x behind none is = rw is refl
place-seam p (y ∷ front) x behind none is =
    elim (cases_Bool (p y)) [
      | inl holds ↦ (let one = count_by-yes p y front holds in absurd (omega arith))
      | inr fails ↦ (let rest = place-seam p front x behind (sym (count_by-no p y front fails) ∙ none) is in rw fails (omega (arith, rest)))
    ]

-- where some of the front pass, the first that passes is in it
pub place-front : {X : Type 0} (p : X → Bool) (front behind : List X) → 1 ≤ count_by p front → position_or_len p (front ++ behind) < length front
place-front p [] behind some = absurd (omega arith)
place-front p (y ∷ front) behind some =
    elim (cases_Bool (p y)) [
      | inl holds ↦ rw holds (omega arith)
      | inr fails ↦ (let one = count_by-no p y front fails in let rest = place-front p front behind (omega arith) in rw fails (omega arith))
    ]

-- where none of the front passes, that at a place in it doesn't
pub fails-front : {X : Type 0} (p : X → Bool) (front behind : List X) (k : ℕ) (d : X) → count_by p front ≡ 0 → k < length front → p (get_or (front ++ behind) k d) ≡ false
fails-front p [] behind k d none lt = absurd (omega arith)
fails-front p (y ∷ front) behind zero d none lt =
    elim (cases_Bool (p y)) [
      | inl holds ↦ (let one = count_by-yes p y front holds in absurd (omega arith))
      | inr fails ↦ fails
    ]
fails-front p (y ∷ front) behind (suc k) d none lt =
    elim (cases_Bool (p y)) [
      | inl holds ↦ (let one = count_by-yes p y front holds in absurd (omega arith))
      | inr fails ↦ fails-front p front behind k d (sym (count_by-no p y front fails) ∙ none) (omega arith)
    ]

-- ---- sums over two lists

sum_by-plus : {K : Type 0} (f g : K → ℕ) (ks : List K) → sum_by (λ k. f k + g k) ks ≡ sum_by f ks + sum_by g ks
sum_by-plus f g [] = refl
sum_by-plus f g (k ∷ ks) =
    let both = sum_by-cons (λ k. f k + g k) k ks in
    let one = sum_by-cons f k ks in
    let two = sum_by-cons g k ks in
    let rest = sum_by-plus f g ks in omega arith

-- where each that passes has a key, there are no more of these than each key has, taken together
pub spread : {K X : Type 0} (p : X → Bool) (has : K → X → Bool) (ks : List K) (xs : List X) → All (λ x. p x ≡ true → 1 ≤ count_by (λ k. has k x) ks) xs
    → count_by p xs ≤ sum_by (λ k. count_by (has k) xs) ks
spread p has ks [] each = omega arith
spread p has ks (x ∷ xs) each =
    let rest = spread p has ks xs (All-tail (λ y. p y ≡ true → 1 ≤ count_by (λ k. has k y) ks) x xs each) in
    let here = All-head (λ y. p y ≡ true → 1 ≤ count_by (λ k. has k y) ks) x xs each in
    let steps : sum_by (λ k. count_by (has k) (x ∷ xs)) ks ≡ sum_by (λ k. cond (has k x) 1 0 + count_by (has k) xs) ks
    = ap (λ f. sum_by f ks) (λ j k. sum_by-cons (λ y. cond (has k y) 1 0) x xs j) in
    let parts = sum_by-plus (λ k. cond (has k x) 1 0) (λ k. count_by (has k) xs) ks in
    elim (cases_Bool (p x)) [
      | inl holds ↦ (let one = count_by-yes p x xs holds in let some = here holds in omega (arith, one, some, steps, parts, rest))
      | inr fails ↦ (let one = count_by-no p x xs fails in omega (arith, one, steps, parts, rest))
    ]

-- what is contained is counted
pub contained : (xs : List ℕ) (x : ℕ) → Contains xs x → 1 ≤ count_by (λ k. nat_eq x k) xs
contained xs x is =
    let sum = sum_by-remove (λ k. cond (nat_eq x k) 1 0) xs is.0 x is.1 in
    let here : ◌≡◌ {A = ℕ} (cond (nat_eq x (get_or xs is.0 x)) 1 0) 1 = ap (λ b. cond b 1 0) (eq-eqb x (get_or xs is.0 x) (sym is.2)) in
    omega (arith, sum, here)
