-- The text of a schedule.
use Rattle.std.specs.Prelude.{ℕ, List, [], ◌∷◌, ◌++◌, flat_map}
use Rattle.ab_text.specs.Heads.{Script, version_of}
use Rattle.ab_text.specs.Spelling.{schedule_lines}

-- each line ends with a line feed
abbrev pub text_of : List (List ℕ) → List ℕ
text_of ls = flat_map (λ l. l ++ 10 ∷ []) ls

-- with the least first line
abbrev pub schedule_text : Script → List ℕ
schedule_text s = text_of (schedule_lines (version_of s) s)
