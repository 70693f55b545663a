-- How votes are counted.
use Rattle.std.proofs.Common.{◌≡◌, ℕ, ◌==◌, ◌&&◌, cond, ◌+◌, List, ◌∷◌, length, refl, inl, inr, arith}
use Rattle.std.specs.Prelude.{count_by}
use Rattle.std.specs.Str.{bytes_eq}
use Rattle.std.proofs.lemmas.List.Recursion.{is_count_by}
use Rattle.std.proofs.lemmas.Bool.{cases_Bool}
use Rattle.ab_lock.specs.Votes.{SlotVote, is_for, voters}

pub counted : (votes : List (SlotVote (List ℕ))) (n : ℕ) (x : List ℕ) → length (voters bytes_eq votes n x) ≡ count_by (λ v. (v.slot == n) && bytes_eq v.x x) votes
counted votes n x = is_count_by (λ (l : List (SlotVote (List ℕ))). length (voters bytes_eq l n x)) (λ v. is_for bytes_eq v n x) refl step votes
  where
    step : (u : SlotVote (List ℕ)) (l : List (SlotVote (List ℕ))) → length (voters bytes_eq (u ∷ l) n x) ≡ cond (is_for bytes_eq u n x) (1 + length (voters bytes_eq l n x)) (length (voters bytes_eq l n x))
    step u l =
        elim (cases_Bool (is_for bytes_eq u n x)) [
          | inl here ↦ rw here (omega arith)
          | inr other ↦ rw other refl
        ]
