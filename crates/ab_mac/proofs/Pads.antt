-- A key as a block under a pad, and a loop that maps an array.
use Rattle.std.proofs.Common.{◌≡◌, ℕ, zero, suc, ◌+◌, ◌-◌, ◌<◌, ◌≤◌, List, [], ◌∷◌, ◌++◌, map, replicate, bit_xor, length, take, get_or, set, refl, sym, ◌∙◌, ap}
use Rattle.std.proofs.lemmas.Grind.{common_steps}
use Rattle.std.proofs.lemmas.List.{map-append, take_more, take_more_set, take_all}
use Rattle.std.specs.Int.Bits.{xor_zero_l}
use Rattle.ab_mac.specs.Tags.{padded_key}

-- the zeros under a pad are the pad
map-replicate : (pad n : ℕ) → map (λ b. bit_xor b pad) (replicate n 0) ≡ replicate n pad
map-replicate pad zero = refl
map-replicate pad (suc n) = ap (λ b. b ∷ map (λ x. bit_xor x pad) (replicate n 0)) (xor_zero_l pad) ∙ ap (λ l. pad ∷ l) (map-replicate pad n)

-- the block of a key of 32 bytes is the key under the pad, and then the pad itself
pub padded : (key : List ℕ) (pad : ℕ) → length key ≡ 32 → map (λ b. bit_xor b pad) (padded_key key) ≡ map (λ b. bit_xor b pad) key ++ replicate 32 pad
padded key pad is =
    map-append (λ b. bit_xor b pad) key (replicate (64 - length key) 0)
    ∙ ap (λ n. map (λ b. bit_xor b pad) key ++ map (λ b. bit_xor b pad) (replicate (64 - n) 0)) is
    ∙ ap (λ l. map (λ b. bit_xor b pad) key ++ l) (map-replicate pad 32)

-- one more element of a mapped array
pub map-step : (f : ℕ → ℕ) (out xs : List ℕ) (i : ℕ) → i < length out → i < length xs → take i out ≡ map f (take i xs)
    → take (i + 1) (set out i (f (get_or xs i 0))) ≡ map f (take (i + 1) xs)
map-step f out xs i lo lx h =
    take_more_set out i (f (get_or xs i 0)) lo ∙ ap (λ l. l ++ f (get_or xs i 0) ∷ []) h
    ∙ sym (map-append f (take i xs) (get_or xs i 0 ∷ [])) ∙ ap (map f) (sym (take_more xs i 0 lx))

pub map-end : (f : ℕ → ℕ) (out xs : List ℕ) (i : ℕ) → length out ≤ i → length xs ≤ i → take i out ≡ map f (take i xs) → out ≡ map f xs
map-end f out xs i lo lx h = sym (take_all i out lo) ∙ h ∙ ap (map f) (take_all i xs lx)

pub ruleset pads = (padded, common_steps)
