-- Positions of a chain and the replicas at them.
use Rattle.std.proofs.Common.{◌≡◌, ℕ, zero, suc, ◌+◌, ◌-◌, ◌*◌, ◌%◌, ◌<◌, ◌≤◌, leb, cond, Bool, true, false, refl, arith}
use Rattle.std.proofs.lemmas.Bool.{leb-false, leb-true}
use Rattle.ab_num.specs.Places.{at_position_of, position_in}

-- ---- with four replicas, and with seven

place-four : (y r : ℕ) (b : Bool) → leb (y % 4) r ≡ b → r < 4
    → ((y + cond b (r - y % 4 + 1) (r + 4 - y % 4 + 1) - 1) % 4 ≡ r) × (1 ≤ cond b (r - y % 4 + 1) (r + 4 - y % 4 + 1)) × (cond b (r - y % 4 + 1) (r + 4 - y % 4 + 1) ≤ 4)
place-four y r true e lt = let le = leb-true (y % 4) r e in (omega (arith, le), omega (arith, le), omega (arith, le))
place-four y r false e lt = let gt = leb-false (y % 4) r e in (omega (arith, gt), omega (arith, gt), omega (arith, gt))

place-seven : (y r : ℕ) (b : Bool) → leb (y % 7) r ≡ b → r < 7
    → ((y + cond b (r - y % 7 + 1) (r + 7 - y % 7 + 1) - 1) % 7 ≡ r) × (1 ≤ cond b (r - y % 7 + 1) (r + 7 - y % 7 + 1)) × (cond b (r - y % 7 + 1) (r + 7 - y % 7 + 1) ≤ 7)
place-seven y r true e lt = let le = leb-true (y % 7) r e in (omega (arith, le), omega (arith, le), omega (arith, le))
place-seven y r false e lt = let gt = leb-false (y % 7) r e in (omega (arith, gt), omega (arith, gt), omega (arith, gt))

back-four : (y q r : ℕ) (b : Bool) → leb (y % 4) r ≡ b → 1 ≤ q → q ≤ 4 → (y + q - 1) % 4 ≡ r → cond b (r - y % 4 + 1) (r + 4 - y % 4 + 1) ≡ q
back-four y q r true e low high at = let le = leb-true (y % 4) r e in omega (arith, le)
back-four y q r false e low high at = let gt = leb-false (y % 4) r e in omega (arith, gt)

back-seven : (y q r : ℕ) (b : Bool) → leb (y % 7) r ≡ b → 1 ≤ q → q ≤ 7 → (y + q - 1) % 7 ≡ r → cond b (r - y % 7 + 1) (r + 7 - y % 7 + 1) ≡ q
back-seven y q r true e low high at = let le = leb-true (y % 7) r e in omega (arith, le)
back-seven y q r false e low high at = let gt = leb-false (y % 7) r e in omega (arith, gt)

-- ---- with as many as a cluster has

-- a replica stands at its position, which is one of the chain
pub at-place : (f i r : ℕ) → 1 ≤ f → f ≤ 2 → r < 3 * f + 1
    → (at_position_of f i (position_in f i r) ≡ r) × (1 ≤ position_in f i r) × (position_in f i r ≤ 3 * f + 1)
at-place zero i r some few lt = absurd (omega arith)
at-place (suc zero) i r some few lt = place-four (i - 1) r (leb ((i - 1) % 4) r) refl lt
at-place (suc (suc zero)) i r some few lt = place-seven (i - 1) r (leb ((i - 1) % 7) r) refl lt
at-place (suc (suc (suc f))) i r some few lt = absurd (omega arith)

-- at no other position stands the same replica
pub only-place : (f i q r : ℕ) → 1 ≤ f → f ≤ 2 → 1 ≤ q → q ≤ 3 * f + 1 → at_position_of f i q ≡ r → position_in f i r ≡ q
only-place zero i q r some few low high at = absurd (omega arith)
only-place (suc zero) i q r some few low high at = back-four (i - 1) q r (leb ((i - 1) % 4) r) refl low high at
only-place (suc (suc zero)) i q r some few low high at = back-seven (i - 1) q r (leb ((i - 1) % 7) r) refl low high at
only-place (suc (suc (suc f))) i q r some few low high at = absurd (omega arith)
