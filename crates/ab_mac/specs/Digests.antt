-- Digests of texts that say what they are.
use Rattle.std.specs.Prelude.{ℕ, List, ◌∷◌, ◌++◌}
use Rattle.sha2.specs.Sha256.{sha256}

-- the digest of a text behind one byte
abbrev pub marked : ℕ → List ℕ → List ℕ
marked b m = sha256 (b ∷ m)

-- the digest of a list that goes on by m, from the digest of what stands before it
abbrev pub linked : List ℕ → List ℕ → List ℕ
linked d m = sha256 (1 ∷ d ++ m)
