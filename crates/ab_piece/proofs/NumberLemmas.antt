-- Numbers from one on.
use Rattle.std.proofs.Common.{◌≡◌, ◌≢◌, inl, inr, ℕ, zero, suc, ◌+◌, ◌<◌, ◌≤◌, ◌==◌, nat_eq, length, false, refl, ◌∙◌, eqb-true, arith}
use Rattle.std.specs.Prelude.{nat_le}
use Rattle.std.specs.List.{count_by}
use Rattle.std.proofs.lemmas.Bool.{cases_Bool, leb-true}
use Rattle.ab_num.proofs.Lists.{count_by-no, count_by-yes}
use Rattle.ab_piece.specs.Pieces.{each_from}

pub differ : (a b : ℕ) → a ≢ b → (a == b) ≡ false
differ a b apart =
    elim (cases_Bool (a == b)) [
      | inl same ↦ absurd (apart (eqb-true a b same))
      | inr differs ↦ differs
    ]

pub length-numbers : (i k : ℕ) → length (each_from (λ j. j) i k) ≡ k
length-numbers i zero = refl
length-numbers i (suc k) = let rest = length-numbers (suc i) k in omega arith

pub before_numbers : (x i k : ℕ) → x < i → count_by (nat_eq x) (each_from (λ j. j) i k) ≡ 0
before_numbers x i zero lt = refl
before_numbers x i (suc k) lt = count_by-no (nat_eq x) i (each_from (λ j. j) (suc i) k) (differ x i (omega arith)) ∙ before_numbers x (suc i) k (omega arith)

pub once_numbers : (x i k : ℕ) → count_by (nat_eq x) (each_from (λ j. j) i k) ≤ 1
once_numbers x i zero = omega arith
once_numbers x i (suc k) =
    elim (cases_Bool (nat_eq x i)) [
      | inl same ↦
          (let one = count_by-yes (nat_eq x) i (each_from (λ j. j) (suc i) k) same in
          let at : x ≡ i = eqb-true x i same in
          let none = before_numbers x (suc i) k (omega arith) in omega arith)
      | inr differs ↦ (let one = count_by-no (nat_eq x) i (each_from (λ j. j) (suc i) k) differs in let rest = once_numbers x (suc i) k in omega arith)
    ]

pub below_numbers : (c i k : ℕ) → i + k ≤ c → count_by (λ j. nat_le c j) (each_from (λ j. j) i k) ≡ 0
below_numbers c i zero le = refl
below_numbers c i (suc k) le =
    elim (cases_Bool (nat_le c i)) [
      | inl past ↦ (let ge = leb-true c i past in absurd (omega arith))
      | inr within ↦ count_by-no (λ j. nat_le c j) i (each_from (λ j. j) (suc i) k) within ∙ below_numbers c (suc i) k (omega arith)
    ]
