-- What is kept of signatures, and how much after one is learnt.
use Rattle.std.proofs.Common.{◌≡◌, ◌≤◌, ◌+◌, ℕ, Bool, true, false, List, [], ◌∷◌, Decides, arith, subst}
use Rattle.std.specs.Prelude.{if◌then◌else◌}
use Rattle.indexmap.specs.IndexMap.{insert_entry}
use Rattle.ab_scheme.specs.Schemes.{VerifiesBy}
use Rattle.ab_sign.specs.Kept.{Signature, bytes_in, size_of}

-- an entry takes another signature, or the entries behind it do
one_if : (b : Bool) (e : List ℕ × Signature) (es after : List (List ℕ × Signature)) (s : Signature) → bytes_in after ≤ bytes_in es + size_of s → bytes_in (if b then (e.0, s) ∷ es else e ∷ after) ≤ bytes_in (e ∷ es) + size_of s
one_if true e es after s rest = omega arith
one_if false e es after s rest = omega (arith, rest)

-- the signature of a key is replaced, or comes last
pub bytes_inserted : (eq : List ℕ → List ℕ → Bool) (es : List (List ℕ × Signature)) (k : List ℕ) (s : Signature) → bytes_in (insert_entry eq es k s) ≤ bytes_in es + size_of s
bytes_inserted eq [] k s = omega arith
bytes_inserted eq (e ∷ es) k s = one_if (eq k e.0) e es (insert_entry eq es k s) s (bytes_inserted eq es k s)

-- equal signatures verify alike
pub verifies_alike : (p q c d s t : List ℕ) → p ≡ q → c ≡ d → s ≡ t → VerifiesBy p c s → VerifiesBy q d t
verifies_alike p q c d s t keys contents sigs v =
    subst (λ (x : List ℕ). VerifiesBy x d t) keys (subst (λ (x : List ℕ). VerifiesBy p x t) contents (subst (λ (x : List ℕ). VerifiesBy p c x) sigs v))

-- a test under a key is one under the same key
pub decides_under : (b : Bool) (p q c s : List ℕ) → p ≡ q → Decides b (VerifiesBy p c s) → Decides b (VerifiesBy q c s)
decides_under b p q c s same d = subst (λ (x : List ℕ). Decides b (VerifiesBy x c s)) same d
