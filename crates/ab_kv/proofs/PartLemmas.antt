-- Where bytes are parted.
use Rattle.std.proofs.Common.{◌≡◌, ℕ, zero, suc, ◌+◌, ◌-◌, ◌<◌, List, [], ◌∷◌, length, take, drop, get_or, false, Some, None, ap, sym, ◌∙◌, arith, refl, if◌then◌else◌, nat_eq, Option}
use Rattle.std.specs.Option.{option_map}
use Rattle.std.proofs.lemmas.Bool.{false_from_ne_true}
use Rattle.std.proofs.lemmas.Bool.Decides.{Decides-eqb}
use Rattle.ab_kv.specs.Readings.{parts}

abbrev pub with_first : ℕ → Option (List ℕ × List ℕ) → Option (List ℕ × List ℕ)
with_first b o = option_map (λ p. (b ∷ p.0, p.1)) o

pub other : (b : ℕ) → (b ≡ 32 → ⊥) → nat_eq b 32 ≡ false
other b ne = false_from_ne_true (nat_eq b 32) (λ t. ne ((Decides-eqb b 32).0 t))

later : (b : ℕ) (bs : List ℕ) (n : ℕ) → drop (n + 1) bs ≡ drop (suc n + 1) (b ∷ bs)
later b bs n = let e : suc n + 1 ≡ suc (n + 1) = omega arith in ap (λ k. drop k (b ∷ bs)) (sym e)

-- they are parted at the first space
pub parts_there : (bs : List ℕ) (n : ℕ) → n < length bs → get_or bs n 0 ≡ 32 → ((k : ℕ) → k < n → get_or bs k 0 ≡ 32 → ⊥) → parts bs ≡ Some (take n bs, drop (n + 1) bs)
parts_there [] n lt here before = absurd (omega arith)
parts_there (b ∷ bs) zero lt here before =
    ap (λ t. if t then Some ([], bs) else with_first b (parts bs)) ((Decides-eqb b 32).1 here)
parts_there (b ∷ bs) (suc n) lt here before =
    ap (λ t. if t then Some ([], bs) else with_first b (parts bs)) (other b (before 0 (omega arith)))
    ∙ ap (with_first b) (parts_there bs n (omega arith) here (λ k h. before (suc k) (omega arith)))
    ∙ ap (λ xs. Some (b ∷ take n bs, xs)) (later b bs n)

-- and nowhere, where there is no space
pub parts_nowhere : (bs : List ℕ) → ((k : ℕ) → k < length bs → get_or bs k 0 ≡ 32 → ⊥) → parts bs ≡ None
parts_nowhere [] none = refl
parts_nowhere (b ∷ bs) none =
    ap (λ t. if t then Some ([], bs) else with_first b (parts bs)) (other b (none 0 (omega arith)))
    ∙ ap (with_first b) (parts_nowhere bs (λ k h. none (suc k) (omega arith)))
