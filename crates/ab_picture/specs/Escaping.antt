-- Bytes as text of an SVG.
use Rattle.std.specs.Prelude.{ℕ, List, [], ◌∷◌, Option, None, Some, codes, nat_le, ◌&&◌, ◌==◌, if◌then◌else◌}
use Rattle.std.specs.List.{flat_map}

-- the name of a byte that a text may not hold
abbrev pub entity_of : ℕ → Option (List ℕ)
entity_of b =
    if b == 60 then Some (codes "&lt;") else
    (if b == 62 then Some (codes "&gt;") else
    (if b == 38 then Some (codes "&amp;") else
    (if b == 34 then Some (codes "&quot;") else None)))

-- a byte that can be printed as it is, and any other as a question mark
abbrev pub printed : ℕ → ℕ
printed b = if nat_le 32 b && nat_le b 126 then b else 63

abbrev pub named_or_printed : ℕ → Option (List ℕ) → List ℕ
named_or_printed b None = printed b ∷ []
named_or_printed b (Some name) = name

abbrev pub escaped_byte : ℕ → List ℕ
escaped_byte b = named_or_printed b (entity_of b)

abbrev pub escaped : List ℕ → List ℕ
escaped bytes = flat_map escaped_byte bytes
