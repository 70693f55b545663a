-- Items that are looked up by their bytes.
use Rattle.std.proofs.Common.{◌≡◌, ◌||◌, ℕ, Bool, true, false, List, [], ◌∷◌, ◌++◌, map, if◌then◌else◌, ap, ◌∙◌, refl}
use Rattle.std.specs.List.{list_any}
use Rattle.std.specs.Str.{bytes_eq}
use mathlib.Core.List.{map-append}
use Rattle.ab_run.specs.Stages.{keep}

module _ {X : Type 0} (bytes : X → List ℕ) where
  -- whether one of the items passes a test of its bytes
  pub any_bytes : (test : List ℕ → Bool) (xs : List X) → list_any (λ x. test (bytes x)) xs ≡ list_any test (map bytes xs)
  any_bytes test [] = refl
  any_bytes test (x ∷ xs) = ap (λ b. test (bytes x) || b) (any_bytes test xs)

  added : (xs : List X) (x : X) (there : Bool) → map bytes (if there then xs else xs ++ x ∷ []) ≡ (if there then map bytes xs else map bytes xs ++ bytes x ∷ [])
  added xs x true = refl
  added xs x false = map-append bytes xs (x ∷ [])

  -- an item is added where none has its bytes
  pub kept_bytes : (xs : List X) (x : X) → map bytes (if list_any (λ y. bytes_eq (bytes x) (bytes y)) xs then xs else xs ++ x ∷ []) ≡ keep (map bytes xs) (bytes x)
  kept_bytes xs x =
      added xs x (list_any (λ y. bytes_eq (bytes x) (bytes y)) xs)
      ∙ ap (λ there. if there then map bytes xs else map bytes xs ++ bytes x ∷ []) (any_bytes (bytes_eq (bytes x)) xs)
