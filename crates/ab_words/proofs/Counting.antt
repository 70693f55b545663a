-- Uses of which each option has one, and no other has any.
use Rattle.std.proofs.Common.{◌≡◌, ℕ, ◌+◌, List, [], ◌∷◌, ◌++◌, Option, None, Some, Bool, true, false, refl, ap, sym, ◌∙◌, inl, inr, map, subst, cond, not, ◌||◌, ◌⊎◌, append_assoc, length, arith}
use Rattle.std.specs.Str.{bytes_eq}
use Rattle.std.proofs.lemmas.Bool.{and_parts, cases_Bool, not-true}
use Rattle.std.proofs.lemmas.Slice.Eq.{bytes_eq-Decides}
use Rattle.std.proofs.lemmas.List.{map-append}
use Rattle.std.proofs.lemmas.List.Elements.{filter-append}
use Rattle.clap.specs.Lexer.{strip_byte}
use Rattle.clap.specs.Words.{Text, Row}
use Rattle.clap.specs.Walk.{has_row}
use Rattle.clap.specs.Takes.{is_given}
use Rattle.ab_words.specs.Uses.{Use}
use Rattle.ab_words.specs.Options.{is_flag, is_optional, has}
use Rattle.ab_words.specs.Values.{of_name, value_of, sole}
use Rattle.ab_words.specs.Language.{flag}
use Rattle.ab_words.proofs.Taken.{row_of_use, IsTaken, AreTaken, unvalued, IsPlain, ArePlain}
use Rattle.ab_words.specs.Found.{count_of_names, HasOnly, HasValue, IsLeftOut, IsOnce, EachOnce, are_different}
use Rattle.ab_words.proofs.Ends.{AllGiven, flip}

-- ---- counts

one_if : Bool → ℕ
one_if true = 1
one_if false = 0

count-more : (names : List Text) (u : Use) (us : List Use) → are_different names ≡ true → count_of_names names (u ∷ us) ≡ count_of_names names us + one_if (has u.name names)
unfolding one_if
count-more [] u us d = refl
count-more (n ∷ ns) u us d =
    let parts = and_parts (not (has n ns)) (are_different ns) d in
    let rest = count-more ns u us parts.1 in
    elim (cases_Bool (bytes_eq u.name n)) [
      | inl t ↦
          let is = (bytes_eq-Decides u.name n).0 t in
          let none : has u.name ns ≡ false = ap (λ m. has m ns) is ∙ not-true (has n ns) parts.0 in
          let back = rest ∙ ap (λ b. count_of_names ns us + one_if b) none in
          rw (t, flip u.name n true t) (omega (arith, back))
      | inr f ↦ rw (f, flip u.name n false f) (omega (arith, rest))
    ]

unknown : List Text → List Use → ℕ
unknown names [] = 0
unknown names (u ∷ us) = one_if (not (has u.name names)) + unknown names us

one-of-two : (b : Bool) → one_if b + one_if (not b) ≡ 1
unfolding one_if
one-of-two true = refl
one-of-two false = refl

length-is : (names : List Text) (us : List Use) → are_different names ≡ true → length us ≡ count_of_names names us + unknown names us
unfolding unknown
length-is names [] d = go names
  where
    go : (ns : List Text) → 0 ≡ count_of_names ns [] + 0
    go [] = refl
    go (n ∷ ns) = omega (arith, go ns)
length-is names (u ∷ us) d = omega (arith, length-is names us d, count-more names u us d, one-of-two (has u.name names))

all-known : (names : List Text) (rows : List Row) (us : List Use) → AreTaken names rows us → unknown names us ≡ 0
unfolding unknown one_if
all-known names rows [] t = refl
all-known names rows (u ∷ us) t = ap (λ b. one_if (not b) + unknown names us) t.0.known ∙ omega (arith, all-known names (rows ++ row_of_use u ∷ []) us t.1)

-- the uses that were taken are of these options alone
pub has-only : (names : List Text) (us : List Use) → are_different names ≡ true → AreTaken names [] us → HasOnly names us
has-only names us d t = omega (arith, length-is names us d, all-known names [] us t)

-- ---- uses that are each of these options once are taken

abbrev Known : List Text → List Use → Type 0
Known names [] = Unit {0}
Known names (u ∷ us) = (has u.name names ≡ true) × Known names us

known-from : (names : List Text) (us : List Use) → unknown names us ≡ 0 → Known names us
unfolding unknown one_if
known-from names [] e = tt
known-from names (u ∷ us) e = elim (cases_Bool (has u.name names)) [
  | inl t ↦ (t, known-from names us (let z : one_if (not (has u.name names)) + unknown names us ≡ 0 = e in omega (arith, z)))
  | inr f ↦
      let z : one_if (not (has u.name names)) + unknown names us ≡ 0 = e in
      let one : one_if (not (has u.name names)) ≡ 1 = ap (λ b. one_if (not b)) f in
      absurd (omega (arith, z, one))
]

each-at : (names : List Text) (us : List Use) (m : Text) → EachOnce names us → has m names ≡ true → IsOnce m us
each-at [] us m e h = absurd cc (h)
each-at (n ∷ ns) us m e h = elim (cases_Bool (bytes_eq n m)) [
  | inl t ↦ subst (λ k. IsOnce k us) ((bytes_eq-Decides n m).0 t) e.0
  | inr f ↦ each-at ns us m e.1 (sym (ap (λ b. b || has m ns) f) ∙ h)
]

sole-split : (xs : List Use) (u : Use) (ys : List Use) (v : Text) → sole (xs ++ u ∷ ys) ≡ Some v → (xs ≡ []) × (u.value ≡ Some v)
sole-split [] u [] v e = (refl, e)
sole-split [] u (y ∷ ys) v e = absurd cc (e)
sole-split (x ∷ []) u ys v e = absurd cc (e)
sole-split (x ∷ z ∷ xs) u ys v e = absurd cc (e)

unvalued-none : (v : Option Text) (b : Bool) → flag (record { name = []; value = v } ∷ []) ≡ Some b → v ≡ None
unvalued-none None b e = refl
unvalued-none (Some v) b e = absurd cc (e)

flag-split : (xs : List Use) (u : Use) (ys : List Use) (b : Bool) → flag (xs ++ u ∷ ys) ≡ Some b → (xs ≡ []) × (u.value ≡ None)
flag-split [] u [] b e = (refl, unvalued-none u.value b e)
flag-split [] u (y ∷ ys) b e = absurd cc (e)
flag-split (x ∷ []) u ys b e = absurd cc (e)
flag-split (x ∷ z ∷ xs) u ys b e = absurd cc (e)

no-row : (n : Text) (us : List Use) → of_name n us ≡ [] → has_row n (map row_of_use us) ≡ false
no-row n [] e = refl
no-row n (u ∷ us) e = elim (cases_Bool (bytes_eq u.name n)) [
  | inl t ↦ let z : of_name n (u ∷ us) ≡ u ∷ of_name n us = rw t refl in absurd cc (e, z)
  | inr f ↦ let z : of_name n (u ∷ us) ≡ of_name n us = rw f refl in rw f (no-row n us (sym z ∙ e))
]

split-at : (a us : List Use) (u : Use) → of_name u.name (a ++ u ∷ us) ≡ of_name u.name a ++ u ∷ of_name u.name us
split-at a us u =
    filter-append (λ (w : Use). bytes_eq w.name u.name) a (u ∷ us)
    ∙ ap (λ b. of_name u.name a ++ cond b (u ∷ of_name u.name us) (of_name u.name us)) ((bytes_eq-Decides u.name u.name).1 refl)

is-value : (v : Option Text) (w : Text) → v ≡ Some w → false ≡ unvalued v
is-value (Some v) w e = refl
is-value None w e = absurd cc (e)

record Head (names : List Text) (a : List Use) (u : Use) : Type 0 where
  taken : IsTaken names (map row_of_use a) u
  plain : IsPlain u.value

plain-as : (v : Option Text) (w : Text) → v ≡ Some w → strip_byte 45 w ≡ None → IsPlain v
plain-as None w e p = absurd cc (e)
plain-as (Some v) w e p = let s : v ≡ w = cc (e) in subst (λ x. strip_byte 45 x ≡ None) (sym s) p

not-empty : (xs : List Use) (u : Use) (ys : List Use) → xs ++ u ∷ ys ≡ [] → ⊥
not-empty [] u ys e = absurd cc (e)
not-empty (x ∷ xs) u ys e = absurd cc (e)

-- an option that is used isn't left out
value-there : (n : Text) (uses xs : List Use) (u : Use) (ys : List Use) → of_name n uses ≡ xs ++ u ∷ ys → HasValue n uses ⊎ IsLeftOut n uses → HasValue n uses
value-there n uses xs u ys split (inl given) = given
value-there n uses xs u ys split (inr left) = absurd (not-empty xs u ys (sym split ∙ left.1))

head-is : (names : List Text) (a us : List Use) (u : Use) → has u.name names ≡ true → IsOnce u.name (a ++ u ∷ us) → Head names a u
unfolding value_of
head-is names a us u known once = elim (cases_Bool (is_flag u.name)) [
  | inl t ↦
      let said = once.1 t in
      let s = flag-split (of_name u.name a) u (of_name u.name us) said.0 (sym (ap flag (split-at a us u)) ∙ said.1) in
      record { taken = record { known = known; kind = t ∙ sym (ap unvalued s.1); fresh = no-row u.name a s.0 }; plain = subst IsPlain (sym s.1) tt }
  | inr f ↦
      let given = value-there u.name (a ++ u ∷ us) (of_name u.name a) u (of_name u.name us) (split-at a us u) (once.0 f) in
      let s = sole-split (of_name u.name a) u (of_name u.name us) given.0 (sym (ap sole (split-at a us u)) ∙ given.1) in
      record { taken = record { known = known; kind = f ∙ is-value u.value given.0 s.1; fresh = no-row u.name a s.0 }; plain = plain-as u.value given.0 s.1 given.2 }
]

taken-from : (names : List Text) (a us : List Use) → ((m : Text) → has m names ≡ true → IsOnce m (a ++ us)) → Known names us → AreTaken names (map row_of_use a) us × ArePlain us
taken-from names a [] once known = (tt, tt)
taken-from names a (u ∷ us) once known =
    let head = head-is names a us u known.0 (once u.name known.0) in
    let rest = taken-from names (a ++ u ∷ []) us (λ m h. subst (IsOnce m) (sym (append_assoc a (u ∷ []) us)) (once m h)) known.1 in
    let taken = subst (λ rows. AreTaken names rows us) (map-append row_of_use a (u ∷ [])) rest.0 in
    ((head.taken, taken), (head.plain, rest.1))

given-is : (n v : Text) (us : List Use) → sole (of_name n us) ≡ Some v → is_given n (map row_of_use us) ≡ true
given-is n v [] e = absurd cc (e)
given-is n v (u ∷ us) e = elim (cases_Bool (bytes_eq u.name n)) [
  | inl t ↦ rw t refl
  | inr f ↦ let z : of_name n (u ∷ us) ≡ of_name n us = rw f refl in rw f (given-is n v us (sym (ap sole z) ∙ e))
]

all-given : (names : List Text) (us : List Use) → EachOnce names us → AllGiven names (map row_of_use us)
unfolding value_of
all-given [] us e = tt
all-given (n ∷ ns) us e = ((λ f needed. here (e.0.0 f) needed), all-given ns us e.1)
  where
    here : HasValue n us ⊎ IsLeftOut n us → is_optional n ≡ false → is_given n (map row_of_use us) ≡ true
    here (inl g) needed = given-is n g.0 us g.1
    here (inr left) needed = absurd cc (left.0, needed)

pub each-taken : (names : List Text) (us : List Use) → are_different names ≡ true → EachOnce names us → HasOnly names us → AreTaken names [] us × ArePlain us × AllGiven names (map row_of_use us)
each-taken names us d each only =
    let known = known-from names us (omega (arith, length-is names us d, only)) in
    let t = taken-from names [] us (λ m h. each-at names us m each h) known in
    (t.0, t.1, all-given names us each)
