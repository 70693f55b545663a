use Rattle.std.specs.Prelude.{codes}
use Rattle.std.proofs.Common.{◌≡◌, [], ◌++◌, List, ℕ, ap, ◌∙◌, append_assoc, rules}
use Rattle.ab_picture.specs.declared.picture.Picture.{Picture}
use Rattle.ab_picture.specs.Drawn.{AddsDrawing, Shows, drawing_text}
use Rattle.ab_picture.specs.Lists.{AddsAll}
use Rattle.ab_picture.specs.Telling.{IsLabel}
use Rattle.ab_picture.proofs.ListLemmas.{all_added}
use Rattle.ab_picture.proofs.whole.svg.Goals as goal

-- what is drawn behind a head, and then told, and closed
shown : (p : Picture) (head start drawn body text : List ℕ) → start ≡ [] → AddsDrawing p start drawn → AddsAll IsLabel p.marks.items drawn body → text ≡ (head ++ body) ++ codes "</svg>\n" → Shows p text
shown p head start drawn body text empty draws tells is =
    let end = codes "</svg>\n" in
    let d = drawing_text draws.drawing in
    let told = tells.added.text in
    record {
      head = head;
      drawing = draws.drawing;
      labels = tells.added;
      is =
          is
          ∙ ap (λ t. (head ++ t) ++ end) (tells.is ∙ ap (λ t. t ++ told) (draws.is ∙ ap (λ t. t ++ d) empty))
          ∙ append_assoc head (d ++ told) end
          ∙ ap (λ t. head ++ t) (append_assoc d told end);
    }

pub returns : goal.returns
returns c =
    let p = c.args.picture.now in
    let drawn = c.add_drawing.new.out.items in
    let body = c.add_all_told.new.out.items in
    let empty : c.new-body.result.items ≡ [] = search rules in
    shown p c.add_head.new.out.items c.new-body.result.items drawn body c.extend_from_slice.new.self.items empty c.in_ok-add_drawing.ensures
    (all_added IsLabel c.as_slice-2.result.now p.marks.items drawn body c.as_slice-2.ensures.value c.in_ok-right.ensures)
    (c.in_ok-extend_from_slice.ensures.items ∙ ap (λ t. t ++ codes "</svg>\n") c.in_ok-append.ensures.items)
