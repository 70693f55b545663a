-- Whether a tag stands for a text.
use Rattle.std.specs.Prelude.{ℕ, List, Bool, false, Option, Some, None}
use Rattle.std.specs.Str.{bytes_eq}
use Rattle.ab_num.specs.declared.party.Party.{Party}
use Rattle.ab_keys.specs.Rings.{Ring, tag_from}

-- whether a tag is there and is the right one
abbrev pub is_tag : Option (List ℕ) → Option (List ℕ) → Bool
is_tag (Some right) (Some tag) = bytes_eq tag right
is_tag (Some right) None = false
is_tag None tag = false

-- whether a tag is there and is that of the maker over the text
abbrev pub is_tag_from : Ring → Party → List ℕ → Option (List ℕ) → Bool
is_tag_from ring maker text tag = is_tag (tag_from ring maker text) tag
