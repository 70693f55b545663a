-- How much is kept of the signatures that are known.
use Rattle.std.specs.Prelude.{ℕ, ◌+◌, List, [], ◌∷◌, length}

-- a public key, a content and a signature over it
abbrev pub Signature : Type 0
Signature = List ℕ × (List ℕ × List ℕ)

-- the bytes of its content and of the signature
abbrev pub size_of : Signature → ℕ
size_of s = length s.1.0 + length s.1.1

-- the bytes of all contents and signatures that are kept
abbrev pub bytes_in : List (List ℕ × Signature) → ℕ
bytes_in [] = 0
bytes_in (e ∷ es) = size_of e.1 + bytes_in es
