-- What is told beside the lifelines.
use Rattle.std.specs.Prelude.{◌≡◌, ℕ, ◌+◌, List, ◌++◌, codes, decimal}
use Rattle.ab_text.specs.Reports.{◌then◌}
use Rattle.ab_picture.specs.declared.picture.Mark.{Mark}
use Rattle.ab_picture.specs.Escaping.{escaped}
use Rattle.ab_picture.specs.Labels.{label_of}
use Rattle.ab_picture.specs.Layout.{y_of}

-- what comes before a label
abbrev pub opening_of : ℕ → ℕ → List ℕ
opening_of x y = codes "<text class=\"told\" x=\"" then decimal x then codes "\" y=\"" then decimal y then codes "\">"

-- the label of a mark, escaped, in the row of the mark's event
abbrev pub told_line : ℕ → Mark → List ℕ
told_line x m = opening_of x (y_of m.event + 4) ++ (escaped (label_of m) ++ codes "</text>\n")

-- how far to the right it stands is open
pub record IsLabel (m : Mark) (text : List ℕ) : Type 0 where
  pub x : ℕ
  pub is : text ≡ told_line x m
