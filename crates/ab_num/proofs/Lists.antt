-- What stands in a list, and how many of it pass a test.
use Rattle.std.proofs.Common.{◌≡◌, ℕ, zero, suc, ◌+◌, ◌<◌, Bool, true, false, cond, Some, List, [], ◌∷◌, ◌++◌, ◌⊎◌, length, map, drop, get_or, refl, sym, ap, ◌∙◌, subst, inl, inr, arith, zero-add, append_assoc}
use Rattle.std.specs.Prelude.{Contains, count_by, flat_map, nat_eq, replicate, slice_get, slice_set}
use Rattle.std.specs.List.{filter, IsDistinct}
use Rattle.std.proofs.lemmas.Bool.{cases_Bool}
use Rattle.std.proofs.lemmas.List.{drop_more}
use Rattle.std.proofs.lemmas.List.Elements.{Contains-append_left, Contains-append_right, Contains-append_cases}
use Rattle.std.proofs.lemmas.List.Sums.{sum_by-cons}

-- ---- what stands in a list

pub Contains-none : {A : Type 0} (y : A) → Contains [] y → ⊥
Contains-none y has = omega (arith, has.1)

pub Contains-head : {A : Type 0} (x : A) (xs : List A) → Contains (x ∷ xs) x
Contains-head x xs = (0, omega arith, refl)

pub Contains-tail : {A : Type 0} (x y : A) (xs : List A) → Contains xs y → Contains (x ∷ xs) y
Contains-tail x y xs is = (suc is.0, omega (arith, is.1), is.2)

pub Contains-cons_cases : {A : Type 0} (x : A) (xs : List A) (y : A) → Contains (x ∷ xs) y → (x ≡ y) ⊎ Contains xs y
Contains-cons_cases x xs y (zero, lt, is) = inl is
Contains-cons_cases x xs y (suc k, lt, is) = inr (k, omega arith, is)

pub Contains-one : {A : Type 0} (x y : A) → Contains (x ∷ []) y → x ≡ y
Contains-one x y has = elim (Contains-cons_cases x [] y has) [ inl e ↦ e | inr none ↦ absurd (omega (arith, none.1)) ]

pub Contains-map : {A B : Type 0} (f : A → B) (xs : List A) (a : A) → Contains xs a → Contains (map f xs) (f a)
Contains-map f [] a is = absurd (omega (arith, is.1))
Contains-map f (x ∷ xs) a is = elim (Contains-cons_cases x xs a is) [
  | inl e ↦ subst (Contains (f x ∷ map f xs)) (ap f e) (Contains-head (f x) (map f xs))
  | inr more ↦ Contains-tail (f x) (f a) (map f xs) (Contains-map f xs a more)
]

pub Contains-map_cases : {A B : Type 0} (f : A → B) (xs : List A) (b : B) → Contains (map f xs) b → (a : A) × Contains xs a × (f a ≡ b)
Contains-map_cases f [] b is = absurd (omega (arith, is.1))
Contains-map_cases f (x ∷ xs) b is = elim (Contains-cons_cases (f x) (map f xs) b is) [
  | inl e ↦ (x, Contains-head x xs, e)
  | inr more ↦ let r = Contains-map_cases f xs b more in (r.0, Contains-tail x r.0 xs r.1, r.2)
]

pub Contains-flat_map : {A B : Type 0} (f : A → List B) (xs : List A) (a : A) (b : B) → Contains xs a → Contains (f a) b → Contains (flat_map f xs) b
Contains-flat_map f [] a b is has = absurd (omega (arith, is.1))
Contains-flat_map f (x ∷ xs) a b is has =
    elim (Contains-cons_cases x xs a is) [
      | inl e ↦ Contains-append_left (f x) (flat_map f xs) b (rw e has)
      | inr more ↦ Contains-append_right (f x) (flat_map f xs) b (Contains-flat_map f xs a b more has)
    ]

-- an element whose part has b
pub flat_map_cases : {A B : Type 0} (f : A → List B) (xs : List A) (b : B) → Contains (flat_map f xs) b → (a : A) × Contains xs a × Contains (f a) b
flat_map_cases f [] b is = absurd (omega (arith, is.1))
flat_map_cases f (x ∷ xs) b is =
    elim (Contains-append_cases (f x) (flat_map f xs) b is) [
      | inl here ↦ (x, Contains-head x xs, here)
      | inr more ↦ let r = flat_map_cases f xs b more in (r.0, Contains-tail x r.0 xs r.1, r.2)
    ]

pub Contains-filter : {A : Type 0} (p : A → Bool) (xs : List A) (x : A) → Contains xs x → p x ≡ true → Contains (filter p xs) x
Contains-filter p [] x none passes = absurd (omega (arith, none.1))
Contains-filter p (y ∷ xs) x has passes =
    elim (Contains-cons_cases y xs x has) [
      | inl e ↦
          let here : p y ≡ true = ap p e ∙ passes in
          rw here (subst (λ z. Contains (y ∷ filter p xs) z) e (Contains-head y (filter p xs)))
      | inr more ↦
          let rest = Contains-filter p xs x more passes in
          elim (cases_Bool (p y)) [ inl here ↦ rw here (Contains-tail y x (filter p xs) rest) | inr gone ↦ rw gone rest ]
    ]

-- what passes a test stands in the list
pub Contains-filter_cases : {A : Type 0} (p : A → Bool) (xs : List A) (y : A) → Contains (filter p xs) y → Contains xs y × (p y ≡ true)
Contains-filter_cases p [] y is = absurd (omega (arith, is.1))
Contains-filter_cases p (x ∷ xs) y is =
    elim (cases_Bool (p x)) [
      | inl pass ↦
          elim (Contains-cons_cases x (filter p xs) y (rw pass at is)) [
            | inl e ↦ (subst (λ z. Contains (x ∷ xs) z) e (Contains-head x xs), subst (λ z. p z ≡ true) e pass)
            | inr more ↦ let r = Contains-filter_cases p xs y more in (Contains-tail x y xs r.0, r.1)
          ]
      | inr fails ↦ let r = Contains-filter_cases p xs y (rw fails at is) in (Contains-tail x y xs r.0, r.1)
    ]

pub IsDistinct-none : IsDistinct nat_eq []
unfolding IsDistinct
IsDistinct-none = tt

-- ---- how many pass a test

pub count_by-yes : {A : Type 0} (p : A → Bool) (x : A) (xs : List A) → p x ≡ true → count_by p (x ∷ xs) ≡ 1 + count_by p xs
count_by-yes p x xs is = sum_by-cons (λ y. cond (p y) 1 0) x xs ∙ ap (λ b. cond b 1 0 + count_by p xs) is

pub count_by-no : {A : Type 0} (p : A → Bool) (x : A) (xs : List A) → p x ≡ false → count_by p (x ∷ xs) ≡ count_by p xs
count_by-no p x xs is = sum_by-cons (λ y. cond (p y) 1 0) x xs ∙ (ap (λ b. cond b 1 0 + count_by p xs) is ∙ zero-add (count_by p xs))

-- an element that passes both tests
pub record PassesBoth {A : Type 0} (p q : A → Bool) (xs : List A) : Type 0 where
  pub element : A
  pub is_in : Contains xs element
  pub first : p element ≡ true
  pub second : q element ≡ true

-- one more element in front
PassesBoth-cons : {A : Type 0} (p q : A → Bool) (x : A) (xs : List A) → PassesBoth p q xs → PassesBoth p q (x ∷ xs)
PassesBoth-cons p q x xs both =
    record { element = both.element; is_in = Contains-tail x both.element xs both.is_in; first = both.first; second = both.second }

-- two parts that together are more than the list share an element
pub parts_meet : {A : Type 0} (p q : A → Bool) (xs : List A) → length xs < count_by p xs + count_by q xs → PassesBoth p q xs
parts_meet p q [] more = absurd (omega arith)
parts_meet p q (x ∷ xs) more =
    elim (cases_Bool (p x)) [
      | inl in_p ↦ elim (cases_Bool (q x)) [
        | inl in_q ↦ record { element = x; is_in = Contains-head x xs; first = in_p; second = in_q }
        | inr not_q ↦ PassesBoth-cons p q x xs (parts_meet p q xs (omega (arith, count_by-yes p x xs in_p, count_by-no q x xs not_q)))
      ]
      | inr not_p ↦ elim (cases_Bool (q x)) [
        | inl in_q ↦ PassesBoth-cons p q x xs (parts_meet p q xs (omega (arith, count_by-no p x xs not_p, count_by-yes q x xs in_q)))
        | inr not_q ↦ PassesBoth-cons p q x xs (parts_meet p q xs (omega (arith, count_by-no p x xs not_p, count_by-no q x xs not_q)))
      ]
    ]

-- ---- an element by its place

pub slice_get_there : {A : Type 0} (xs : List A) (i : ℕ) → i < length xs → (x : A) × (slice_get xs i ≡ Some x)
slice_get_there [] i lt = absurd (omega arith)
slice_get_there (x ∷ xs) zero lt = (x, refl)
slice_get_there (x ∷ xs) (suc i) lt = slice_get_there xs i (omega arith)

pub slice_get-push : {A : Type 0} (xs : List A) (y : A) → slice_get (xs ++ y ∷ []) (length xs) ≡ Some y
slice_get-push [] y = refl
slice_get-push (x ∷ xs) y = slice_get-push xs y

pub length-slice_set : {A : Type 0} (xs : List A) (r : ℕ) (v : A) → length (slice_set xs r v) ≡ length xs
length-slice_set [] r v = refl
length-slice_set (x ∷ xs) zero v = refl
length-slice_set (x ∷ xs) (suc r) v = ap suc (length-slice_set xs r v)

-- what was read at i, and the rest
pub drop_read : {A : Type 0} (xs : List A) (i : ℕ) (x : A) → i < length xs → x ≡ get_or xs i x → drop i xs ≡ x ∷ drop (i + 1) xs
drop_read xs i x lt is = drop_more xs i x lt ∙ ap (λ y. y ∷ drop (i + 1) xs) (sym is)

-- ---- parts of a list

pub replicate-cons : {A : Type 0} (n : ℕ) (x : A) → replicate n x ++ x ∷ [] ≡ x ∷ replicate n x
replicate-cons zero x = refl
replicate-cons (suc n) x = ap (λ xs. x ∷ xs) (replicate-cons n x)

pub five_parts : (a b c d e : List (List ℕ)) → (((a ++ b) ++ c) ++ d) ++ e ≡ a ++ (b ++ (c ++ (d ++ e)))
five_parts a b c d e = simp append_assoc
