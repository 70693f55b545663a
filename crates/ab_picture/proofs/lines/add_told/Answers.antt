use Rattle.std.specs.Prelude.{codes}
use Rattle.std.proofs.Common.{◌≡◌, ◌+◌, List, ℕ, ◌++◌, refl, ap, ◌∙◌, append_assoc}
use Rattle.ab_picture.specs.declared.picture.Mark.{Mark}
use Rattle.ab_picture.specs.Escaping.{escaped}
use Rattle.ab_picture.specs.Labels.{label_of}
use Rattle.ab_picture.specs.Layout.{y_of}
use Rattle.ab_picture.specs.Telling.{IsLabel, opening_of, told_line}
use Rattle.ab_picture.proofs.ListLemmas.{step}
use Rattle.ab_picture.proofs.lines.add_told.Goals as goal

-- what is added in three steps is a mark's line
one_line : (x : ℕ) (m : Mark) (old opened labelled new opening label : List ℕ) → opening ≡ opening_of x (y_of m.event + 4) → label ≡ label_of m
    → opened ≡ old ++ opening → labelled ≡ opened ++ escaped label → new ≡ labelled ++ codes "</text>\n" → new ≡ old ++ told_line x m
one_line x m old opened labelled new opening label opens labels first second third =
    let end = codes "</text>\n" in
    let l = escaped (label_of m) in
    let o = opening_of x (y_of m.event + 4) in
    third
    ∙ ap (λ t. t ++ end) (second ∙ ap (λ t. opened ++ escaped t) labels ∙ ap (λ t. t ++ l) (first ∙ ap (λ t. old ++ t) opens))
    ∙ append_assoc (old ++ o) l end
    ∙ append_assoc old o (l ++ end)

pub returns : goal.returns
returns c =
    let x = c.if-pen-mark.x in
    step IsLabel c.args.mark.now c.args.out.now.items c.extend_from_slice-2.new.self.items (told_line x c.args.mark.now) (record { x = x; is = refl })
    (one_line x c.args.mark.now c.args.out.now.items c.extend_from_slice.new.self.items c.add_escaped.new.out.items c.extend_from_slice-2.new.self.items
    c.as_bytes.result.now c.as_slice.result.now
    (c.as_bytes.ensures.value ∙ c.in_ok-open.ensures ∙ ap (λ y. opening_of x (y + 4)) c.y_of.ensures)
    (c.as_slice.ensures.value ∙ c.in_ok-label.ensures)
    c.in_ok-extend_from_slice.ensures.items c.in_ok-add_escaped.ensures c.in_ok-extend_from_slice-2.ensures.items)
