-- ABORTs by reference, of which some are chosen.
use Rattle.std.proofs.Common.{◌≡◌, ℕ, zero, suc, ◌+◌, ◌-◌, ◌<◌, ◌≤◌, ◌≢◌, true, false, Option, Some, None, List, [], ◌∷◌, ◌++◌, Bor, length, map, take, drop, get_or, arith, refl, sym, ap, ◌∙◌, subst, append-nil}
use Rattle.std.specs.Prelude.{is_some, All}
use Rattle.std.specs.List.{insert}
use Rattle.std.proofs.Math.Seq.{take-append-add}
use Rattle.std.proofs.lemmas.List.{map-append, map_push, take-map, drop-map, take_all, length-append}
use Rattle.std.proofs.lemmas.List.Elements.{All-head, All-tail, All-push}
use Rattle.ab_num.specs.declared.cluster.Cluster.{Cluster}
use Rattle.ab_hist.specs.Trimmed.{Trimmed}
use Rattle.ab_msg.specs.declared.signed.Signed.{Signed}
use Rattle.ab_client.specs.Choices.{or_else, first_choice}

abbrev pub seen : List (Bor Signed) → List Signed
seen aborts = map (λ s. s.now) aborts

pub map_insert : {A B : Type 0} (f : A → B) (xs : List A) (n : ℕ) (x : A) → map f (insert xs n x) ≡ insert (map f xs) n (f x)
map_insert f xs n x = map-append f (take n xs) (x ∷ drop n xs) ∙ (λ i. sym (take-map f n xs) i ++ f x ∷ sym (drop-map f n xs) i)

-- ---- the first of these, and the others

abbrev pub others : List (Bor Signed) → List (Bor Signed)
others rest = take (length rest - 1) (drop 1 rest)

rest_from : (rest : List (Bor Signed)) (x : Bor Signed) → 0 < length rest → x ≡ get_or rest 0 x → rest ≡ x ∷ others rest
rest_from [] x some first = absurd (omega (arith, some))
rest_from (y ∷ ys) x some first = λ i. sym first i ∷ sym (take_all (length (y ∷ ys) - 1) ys (omega arith)) i

module _ (rest : List (Bor Signed)) (x : Bor Signed) (some : 0 < length rest) (first : x ≡ get_or rest 0 x) where
  seen_is : seen rest ≡ x.now ∷ seen (others rest)
  seen_is = ap seen (rest_from rest x some first)

  pub shorter : length (others rest) < length rest
  shorter = omega (arith, ap length (rest_from rest x some first))

  module _ (P : Signed → Type 0) (all : All P (seen rest)) where
    both : All P (x.now ∷ seen (others rest))
    both = subst (All P) seen_is all

    pub others_formed : All P (seen (others rest))
    others_formed = All-tail P x.now (seen (others rest)) both

    pub more_formed : (chosen : List (Bor Signed)) → All P (seen chosen) → All P (seen (chosen ++ x ∷ []))
    more_formed chosen before = subst (All P) (sym (map_push (λ s. s.now) chosen x)) (All-push P (seen chosen) x.now before (All-head P x.now (seen (others rest)) both))

  step_from : (c : Cluster) (j n : ℕ) (chosen : List (Bor Signed)) (l : List Signed) → 0 < n → l ≡ x.now ∷ seen (others rest)
      → first_choice c j (seen chosen) n l ≡ or_else (first_choice c j (seen (chosen ++ x ∷ [])) (n - 1) (seen (others rest))) (first_choice c j (seen chosen) n (seen (others rest)))
  step_from c j zero chosen l many is = absurd (omega (arith, many))
  step_from c j (suc n) chosen l many is =
      ap (first_choice c j (seen chosen) (suc n)) is
      ∙ (λ i. or_else (first_choice c j (sym (map_push (λ s. s.now) chosen x) i) ((let e : n ≡ suc n - 1 = omega arith in e) i) (seen (others rest))) (first_choice c j (seen chosen) (suc n) (seen (others rest))))

  -- it is chosen, or it isn't
  pub step_is : (c : Cluster) (j n : ℕ) (chosen : List (Bor Signed)) → 0 < n
      → first_choice c j (seen chosen) n (seen rest) ≡ or_else (first_choice c j (seen (chosen ++ x ∷ [])) (n - 1) (seen (others rest))) (first_choice c j (seen chosen) n (seen (others rest)))
  step_is c j n chosen many = step_from c j n chosen (seen rest) many seen_is

-- the last one is taken off
pub popped_is : (chosen all : List (Bor Signed)) (x : Bor Signed) (n : ℕ) → n ≡ length all → all ≡ chosen ++ x ∷ [] → take (n - 1) all ≡ chosen
popped_is chosen all x n many is =
    let long : n - 1 ≡ length chosen + 0 = omega (arith, many, ap length is, length-append chosen (x ∷ [])) in
    (λ i. take (long i) (is i)) ∙ take-append-add chosen (x ∷ []) 0 ∙ append-nil chosen

-- ---- what is found with it, or without

pub or_else-some : {A : Type 0} (o other : Option A) → is_some o ≡ true → or_else o other ≡ o
or_else-some None other is = absurd (cc (is))
or_else-some (Some x) other is = refl

pub is_none : {A : Type 0} (o : Option A) → is_some o ≡ false → o ≡ None
is_none None is = refl
is_none (Some x) is = absurd (cc (is))
