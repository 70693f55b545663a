-- The parts of a text that is put together.
use Rattle.std.proofs.Common.{◌≡◌, ℕ, List, ◌++◌, length, take, drop, ◌∙◌, ap, subst}
use Rattle.std.proofs.Math.Seq.{take-append_seam, drop-append_seam}

-- the part behind the first a elements
pub slice-append : (xs ys rest : List ℕ) (a n : ℕ) → length xs ≡ a → length ys ≡ n → take n (drop a (xs ++ (ys ++ rest))) ≡ ys
slice-append xs ys rest a n p q =
    let P : ℕ → Type 0 = λ k. take n (drop k (xs ++ (ys ++ rest))) ≡ ys in
    let Q : ℕ → Type 0 = λ k. take k (ys ++ rest) ≡ ys in
    subst P p (ap (take n) (drop-append_seam xs (ys ++ rest)) ∙ subst Q q (take-append_seam ys rest))
