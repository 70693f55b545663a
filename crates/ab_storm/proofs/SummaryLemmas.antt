-- The highest instance, replica by replica.
use Rattle.std.proofs.Common.{◌≡◌, ℕ, zero, suc, ◌+◌, ◌<◌, ◌≤◌, ◌==◌, Bool, true, false, cond, Less, Equal, Greater, is_lt, nat_cmp, Option, None, Some, List, [], ◌∷◌, drop, length, refl, sym, ap, ◌∙◌, arith}
use Rattle.std.specs.Ordering.{ord_max}
use Rattle.std.specs.Prelude.{max, nat_lt, slice_get}
use Rattle.std.specs.Option.{option_map}
use Rattle.std.proofs.lemmas.Bool.Decides.{nat_tests}
use Rattle.std.proofs.lemmas.List.{at_drop_more}
use Rattle.std.proofs.lemmas.Option.{slice_get_within, get_or_from_slice_get}
use Rattle.ab_replica.specs.Sites.{Site}
use Rattle.ab_storm.specs.Summaries.{highest}

max_onto : (a b c : ℕ) → max (max a b) c ≡ max a (max b c)
max_onto a b c = omega arith

pub top_next : {P : Type 0} (xs : List (Site P)) (r top instance : ℕ) (o : Option (Site P)) → slice_get xs r ≡ o → Some instance ≡ option_map (λ s. s.rep.at) o
    → max (max top instance) (highest (drop (r + 1) xs)) ≡ max top (highest (drop r xs))
top_next xs r top instance None at is = absurd (cc (is))
top_next xs r top instance (Some s) at is =
    let next : drop r xs ≡ s ∷ drop (r + 1) xs = at_drop_more (λ t. t) xs r s (slice_get_within xs r s at) ∙ ap (λ x. x ∷ drop (r + 1) xs) (get_or_from_slice_get xs r s s at) in
    let same : instance ≡ s.rep.at = cc (is) in
    max_onto top instance (highest (drop (r + 1) xs))
    ∙ ap (λ n. max top (max n (highest (drop (r + 1) xs)))) same
    ∙ ap (λ xs. max top (highest xs)) (sym next)

-- each replica is there
pub there : {A : Type 0} (f : A → ℕ) (xs : List A) (r : ℕ) → r < length xs → None ≡ option_map f (slice_get xs r) → ⊥
there f [] r lt e = omega (arith, lt)
there f (x ∷ xs) zero lt e = cc (e)
there f (x ∷ xs) (suc r) lt e = there f xs r (omega (arith, lt)) e

-- the larger of two numbers, as code takes it
larger_by : (a b : ℕ) (lower same : Bool) → (lower ≡ true → b < a) → (lower ≡ false → a ≤ b) → cond (is_lt (cond lower Less (cond same Equal Greater))) a b ≡ max a b
larger_by a b true same below above = let lt : b < a = below refl in omega (arith, lt)
larger_by a b false true below above = let le : a ≤ b = above refl in omega (arith, le)
larger_by a b false false below above = let le : a ≤ b = above refl in omega (arith, le)

below_of : (a b : ℕ) → nat_lt b a ≡ true → b < a
below_of a b h = grind (arith, nat_tests)

above_of : (a b : ℕ) → nat_lt b a ≡ false → a ≤ b
above_of a b h = grind (arith, nat_tests)

pub larger : (a b : ℕ) → ord_max nat_cmp a b ≡ max a b
larger a b = larger_by a b (nat_lt b a) (b == a) (below_of a b) (above_of a b)
