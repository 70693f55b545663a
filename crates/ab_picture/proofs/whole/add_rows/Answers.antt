use Rattle.std.specs.List.{range_with_len}
use Rattle.std.specs.Prelude.{string_bytes}
use Rattle.std.proofs.Common.{◌≡◌, ◌+◌, ◌-◌, length, ap, ◌∙◌, arith, rules}
use Rattle.ab_picture.specs.Elements.{IsRow, event_class, row_text}
use Rattle.ab_picture.specs.Layout.{y_of}
use Rattle.ab_picture.proofs.Gathering.{range_more}
use Rattle.ab_picture.proofs.ListLemmas.{all_added, none_added, one_added, step}
use Rattle.ab_picture.proofs.whole.add_rows.Goals as goal

pub loop-i-init : goal.loop-i-init
loop-i-init c = none_added (IsRow c.args.picture.now) c.args.out.now.items

pub loop-i-preserved : goal.loop-i-preserved
loop-i-preserved c =
    let i = c.loop-i.i in
    let p = c.args.picture.now in
    let old = c.loop-i.out.items in
    let new = c.add.new.out.items in
    one_added (IsRow p) (range_with_len 1 i) (i + 1) (range_with_len 1 (i + 1)) c.args.out.now.items old new
    (range_more 1 i (i + 1) (omega arith)) c.loop-i.invariant
    (step (IsRow p) (i + 1) old new (string_bytes c.in_ok-row.row)
    (c.in_ok-row.ensures ∙ ap (λ margin. row_text (event_class p.premise (i + 1)) (i + 1) (y_of (i + 1)) (margin - 4) margin) (c.x_of_margin-margin.ensures.is ∙ search rules)) c.in_ok-add.ensures)

pub returns : goal.returns
returns c =
    let p = c.args.picture.now in
    let all : c.loop-i.i ≡ length p.moments.items = omega arith in
    all_added (IsRow p) (range_with_len 1 c.loop-i.i) (range_with_len 1 (length p.moments.items)) c.args.out.now.items c.loop-i.out.items
    (ap (range_with_len 1) all) c.loop-i.invariant
