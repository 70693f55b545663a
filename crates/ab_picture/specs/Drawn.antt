-- What the text of a picture has.
use Rattle.std.specs.Prelude.{◌≡◌, ℕ, List, ◌++◌, codes, length}
use Rattle.std.specs.List.{enumerate_from, range_with_len}
use Rattle.ab_picture.specs.declared.picture.Picture.{Picture}
use Rattle.ab_picture.specs.Elements.{IsArrow, IsColour, IsLane, IsMoment, IsName, IsRow, IsSign, IsStub}
use Rattle.ab_picture.specs.Lists.{Listed}
use Rattle.ab_picture.specs.Telling.{IsLabel}

-- an element of each item that is drawn: of the row of each event, each lane, each stub, each arrow and its name, each event and
-- each mark's sign, and the colours that marks give to lanes
pub record Drawing (p : Picture) : Type 0 where
  pub rows : Listed (IsRow p) (range_with_len 1 (length p.moments.items))
  pub lanes : Listed (IsLane p) (enumerate_from 0 p.lanes.items)
  pub colours : Listed (IsColour p) p.marks.items
  pub stubs : Listed (IsStub p) p.stubs.items
  pub arrows : Listed (IsArrow p) p.arrows.items
  pub names : Listed (IsName p) p.arrows.items
  pub moments : Listed (IsMoment p) (enumerate_from 1 p.moments.items)
  pub signs : Listed (IsSign p) p.marks.items

-- what is drawn: all of it, one after another
abbrev pub drawing_text : {p : Picture} → Drawing p → List ℕ
drawing_text d =
    d.rows.text ++ (d.lanes.text ++ (d.colours.text ++ (d.stubs.text ++ (d.arrows.text ++ (d.names.text ++ (d.moments.text ++ d.signs.text))))))

-- a text grew by what is drawn
pub record AddsDrawing (p : Picture) (old new : List ℕ) : Type 0 where
  pub drawing : Drawing p
  pub is : new ≡ old ++ drawing_text drawing

-- the SVG of a picture: behind its head all that is drawn, then a label for each mark, and nothing else
pub record Shows (p : Picture) (svg : List ℕ) : Type 0 where
  pub head : List ℕ
  pub drawing : Drawing p
  pub labels : Listed IsLabel p.marks.items
  pub is : svg ≡ head ++ (drawing_text drawing ++ (labels.text ++ codes "</svg>\n"))
