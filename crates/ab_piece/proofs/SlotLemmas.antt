-- The bodies of a message of which some pieces came.
use Rattle.std.proofs.Common.{◌≡◌, ◌≢◌, inl, inr, ℕ, zero, suc, ◌+◌, ◌*◌, ◌<◌, nat_eq, List, [], ◌∷◌, ◌++◌, length, take, drop, set, get_or, replicate, Option, None, Some, is_none, unwrap_or, cond, refl, ap, sym, ◌∙◌, eqb-true, arith, length-set, get_or-set_other, get_or-set_same}
use Rattle.std.specs.List.{count_by}
use Rattle.std.proofs.Math.Seq.{take-add}
use Rattle.std.proofs.lemmas.Bool.{cases_Bool, eqb-false}
use Rattle.std.proofs.lemmas.List.{drop-drop, length-replicate, take_all}
use Rattle.std.proofs.lemmas.List.Folds.{sum_by-replicate}
use Rattle.std.proofs.lemmas.List.Sums.{sum_by-set}
use Rattle.ab_num.proofs.Lists.{count_by-no, count_by-yes}
use Rattle.ab_piece.specs.Pieces.{count_of, part_at}
use Rattle.ab_piece.specs.Joining.{message_of, missing}
use Rattle.ab_piece.proofs.WholeLemmas.{all_there}

abbrev nobody : Option (List ℕ)
nobody = None

module _ (m : List ℕ) where
  -- the bodies after the pieces of these indices, the newest first
  abbrev pub slots : List ℕ → List (Option (List ℕ))
  slots [] = replicate (count_of (length m)) None
  slots (i ∷ b) = set (slots b) i (Some (part_at m i))

  pub length-slots : (b : List ℕ) → length (slots b) ≡ count_of (length m)
  length-slots [] = length-replicate (count_of (length m)) nobody
  length-slots (i ∷ b) = length-set (slots b) i (Some (part_at m i)) ∙ length-slots b

  nothing_there : (n i : ℕ) → get_or (replicate n nobody) i nobody ≡ nobody
  nothing_there zero i = refl
  nothing_there (suc n) zero = refl
  nothing_there (suc n) (suc i) = nothing_there n i

  -- the place of a piece that didn't come is empty
  pub slot_empty : (b : List ℕ) (i : ℕ) → count_by (nat_eq i) b ≡ 0 → get_or (slots b) i None ≡ None
  slot_empty [] i none = nothing_there (count_of (length m)) i
  slot_empty (j ∷ b) i none =
      elim (cases_Bool (nat_eq i j)) [
        | inl same ↦ (let one = count_by-yes (nat_eq i) j b same in absurd (omega arith))
        | inr differs ↦
            (let other : i ≢ j = eqb-false i j differs in
            get_or-set_other (slots b) j i (Some (part_at m j)) None other ∙ slot_empty b i (sym (count_by-no (nat_eq i) j b differs) ∙ none))
      ]

  -- what is there is the message's part
  pub slot_part : (b : List ℕ) (i : ℕ) (body : List ℕ) → i < count_of (length m) → get_or (slots b) i None ≡ Some body → body ≡ part_at m i
  slot_part [] i body lt is = cc (nothing_there (count_of (length m)) i)
  slot_part (j ∷ b) i body lt is =
      elim (cases_Bool (nat_eq i j)) [
        | inl same ↦
            (let at : i ≡ j = eqb-true i j same in
            let here : get_or (slots (j ∷ b)) i None ≡ Some (part_at m j) =
            ap (λ k. get_or (slots (j ∷ b)) k None) at ∙ get_or-set_same (slots b) j (Some (part_at m j)) None (omega (arith, length-slots b)) in
            let part : part_at m j ≡ part_at m i = ap (part_at m) (sym at) in cc)
        | inr differs ↦
            (let other : i ≢ j = eqb-false i j differs in
            slot_part b i body lt (sym (get_or-set_other (slots b) j i (Some (part_at m j)) None other) ∙ is))
      ]

  -- each piece that comes is one less that is missing
  pub missing-slots : (b : List ℕ) (i : ℕ) → i < count_of (length m) → get_or (slots b) i None ≡ None → missing (slots (i ∷ b)) + 1 ≡ missing (slots b)
  missing-slots b i lt empty =
      let sum = sum_by-set (λ (o : Option (List ℕ)). cond (is_none o) 1 0) (slots b) i (Some (part_at m i)) None (omega (arith, length-slots b)) in
      let here : ◌≡◌ {A = ℕ} (cond (is_none (get_or (slots b) i None)) 1 0) 1 = ap (λ (o : Option (List ℕ)). cond (is_none o) 1 0) empty in
      omega (arith, sum, here)

  pub missing-none : missing (slots []) ≡ count_of (length m)
  missing-none = let sum = sum_by-replicate (λ (o : Option (List ℕ)). cond (is_none o) 1 0) (count_of (length m)) nobody in omega (arith, sum)

  -- parts from one on, one behind the other
  joined_parts : (xs : List (Option (List ℕ))) (k : ℕ) → ((i : ℕ) → i < length xs → get_or xs i None ≡ Some (part_at m (k + i)))
      → message_of xs ≡ take (8192 * length xs) (drop (8192 * k) m)
  joined_parts [] k each = refl
  joined_parts (x ∷ xs) k each =
      let here : x ≡ Some (part_at m k) = each 0 (omega arith) ∙ ap (λ j. Some (part_at m j)) (let z : k + 0 ≡ k = omega arith in z) in
      let rest : message_of xs ≡ take (8192 * length xs) (drop (8192 * suc k) m) =
      joined_parts xs (suc k) (λ i lt. each (suc i) (omega arith) ∙ ap (λ j. Some (part_at m j)) (let z : k + suc i ≡ suc k + i = omega arith in z)) in
      let size : 8192 + 8192 * length xs ≡ 8192 * suc (length xs) = omega arith in
      let from : 8192 * k + 8192 ≡ 8192 * suc k = omega arith in
      let first : message_of (x ∷ xs) ≡ part_at m k ++ message_of xs = ap (λ (o : Option (List ℕ)). unwrap_or o [] ++ message_of xs) here in
      first ∙ ap (λ text. part_at m k ++ text) rest
      ∙ ap (λ n. part_at m k ++ take (8192 * length xs) (drop n m)) (sym from)
      ∙ ap (λ (text : List ℕ). part_at m k ++ take (8192 * length xs) text) (sym (drop-drop 8192 (8192 * k) m))
      ∙ sym (take-add 8192 (8192 * length xs) (drop (8192 * k) m))
      ∙ ap (λ n. take n (drop (8192 * k) m)) size

  -- where none is missing, the message is there
  pub whole-slots : (b : List ℕ) → missing (slots b) ≡ 0 → message_of (slots b) ≡ m
  whole-slots b none =
      let size = length-slots b in
      let each : (i : ℕ) → i < length (slots b) → get_or (slots b) i None ≡ Some (part_at m (0 + i)) = λ i lt.
      (let there = all_there (slots b) none i lt in
      let part = slot_part b i (unwrap_or (get_or (slots b) i None) []) (omega arith) there in
      there ∙ ap (λ (text : List ℕ). Some text) part ∙ ap (λ j. Some (part_at m j)) (let z : i ≡ 0 + i = omega arith in z)) in
      joined_parts (slots b) 0 each ∙ take_all (8192 * length (slots b)) m (omega (arith, size))
