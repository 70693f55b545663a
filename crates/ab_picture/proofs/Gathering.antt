-- Lists that are gathered one element after another.
use Rattle.std.proofs.Common.{◌≡◌, ℕ, zero, suc, ◌+◌, List, [], ◌∷◌, ◌++◌, Option, None, Some, map, flat_map, refl, sym, ap, ◌∙◌, append_assoc, arith}
use Rattle.std.specs.List.{cons_option, enumerate_from, filter_map, range_with_len}
use Rattle.std.proofs.lemmas.Grind.{flat_map-append}
use Rattle.std.proofs.lemmas.List.{append-nil}
use Rattle.std.proofs.lemmas.List.FromFn.{map-range_with_len_more}

-- ---- numbers

pub range_more : (a n j : ℕ) → a + n ≡ j → range_with_len a (n + 1) ≡ range_with_len a n ++ j ∷ []
range_more a zero j h = let e : a ≡ j = omega (arith, h) in ap (λ x. x ∷ []) e
range_more a (suc n) j h =
    let e : suc n + 1 ≡ suc (n + 1) = omega arith in
    let k : a + 1 + n ≡ j = omega (arith, h) in
    ap (range_with_len a) e ∙ ap (λ t. a ∷ t) (range_more (a + 1) n j k)

-- what is gathered of the numbers below j, and then of j
pub gathered_number : {X : Type 0} (f : ℕ → List X) (before old now : List X) (j : ℕ)
    → old ≡ before ++ flat_map f (range_with_len 0 j) → now ≡ old ++ f j → now ≡ before ++ flat_map f (range_with_len 0 (j + 1))
gathered_number f before old now j was is =
    let e : 0 + j ≡ j = omega arith in
    is
    ∙ ap (λ t. t ++ f j) was
    ∙ append_assoc before (flat_map f (range_with_len 0 j)) (f j)
    ∙ ap (λ t. before ++ (flat_map f (range_with_len 0 j) ++ t)) (sym (append-nil (f j)))
    ∙ ap (λ t. before ++ t) (sym (flat_map-append f (range_with_len 0 j) (j ∷ [])) ∙ ap (flat_map f) (sym (range_more 0 j j e)))

-- ---- elements

kept : {Y : Type 0} (o : Option Y) (rest : List Y) → cons_option o [] ++ rest ≡ cons_option o rest
kept None rest = refl
kept (Some y) rest = refl

-- one element more is looked at
pub gathered_option : {X Y : Type 0} (h : ℕ × X → Option Y) (xs rest : List X) (n : ℕ) (x : X) (whole old now : List Y) → xs ≡ x ∷ rest
    → old ++ filter_map h (enumerate_from n xs) ≡ whole → now ≡ old ++ cons_option (h (n, x)) []
    → now ++ filter_map h (enumerate_from (n + 1) rest) ≡ whole
gathered_option h xs rest n x whole old now front was is =
    let more = filter_map h (enumerate_from (n + 1) rest) in
    ap (λ t. t ++ more) is
    ∙ append_assoc old (cons_option (h (n, x)) []) more
    ∙ ap (λ t. old ++ t) (kept (h (n, x)) more)
    ∙ ap (λ t. old ++ filter_map h (enumerate_from n t)) (sym front)
    ∙ was

pub gathered_value : {X Y : Type 0} (f : ℕ × X → Y) (xs rest : List X) (n : ℕ) (x : X) (whole old now : List Y) → xs ≡ x ∷ rest
    → old ++ map f (enumerate_from n xs) ≡ whole → now ≡ old ++ f (n, x) ∷ []
    → now ++ map f (enumerate_from (n + 1) rest) ≡ whole
gathered_value f xs rest n x whole old now front was is =
    let more = map f (enumerate_from (n + 1) rest) in
    ap (λ t. t ++ more) is
    ∙ append_assoc old (f (n, x) ∷ []) more
    ∙ ap (λ t. old ++ map f (enumerate_from n t)) (sym front)
    ∙ was

-- what is made of the n numbers from a on, and then of j
pub mapped_number : {X : Type 0} (f : ℕ → X) (before old now : List X) (a n j : ℕ) → a + n ≡ j
    → old ≡ before ++ map f (range_with_len a n) → now ≡ old ++ f j ∷ [] → now ≡ before ++ map f (range_with_len a (n + 1))
mapped_number f before old now a n j h was is =
    is
    ∙ ap (λ t. t ++ f j ∷ []) was
    ∙ append_assoc before (map f (range_with_len a n)) (f j ∷ [])
    ∙ ap (λ t. before ++ t) (sym (map-range_with_len_more f a n j h))
