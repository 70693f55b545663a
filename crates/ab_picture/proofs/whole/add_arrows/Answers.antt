use Rattle.std.specs.Prelude.{string_bytes}
use Rattle.std.proofs.Common.{◌+◌, take}
use Rattle.ab_picture.specs.declared.picture.Arrow.{Arrow}
use Rattle.std.proofs.lemmas.List.{take_more}
use Rattle.ab_picture.specs.Elements.{IsArrow}
use Rattle.ab_picture.proofs.ListLemmas.{all_added, none_added, one_added, step, taken_all}
use Rattle.ab_picture.proofs.whole.add_arrows.Goals as goal

pub loop-arrow-init : goal.loop-arrow-init
loop-arrow-init c = none_added (IsArrow c.args.picture.now) c.args.out.now.items

pub loop-arrow-preserved : goal.loop-arrow-preserved
loop-arrow-preserved c =
    let arrows = c.as_slice-arrows.result.now in
    let i = c.loop-arrow.arrow-index in
    let old = c.loop-arrow.out.items in
    let none : Arrow = record { packet = 0; code = 0; from = 0; to = 0 } in
    one_added (IsArrow c.args.picture.now) (take i arrows) _ (take (i + 1) arrows) c.args.out.now.items old c.add.new.out.items
    (take_more arrows i none c.loop-arrow-test.true) c.loop-arrow.invariant
    (step (IsArrow c.args.picture.now) _ old c.add.new.out.items (string_bytes c.in_ok-line.line) c.in_ok-line.ensures c.in_ok-add.ensures)

pub returns : goal.returns
returns c =
    let arrows = c.as_slice-arrows.result.now in
    let i = c.loop-arrow.arrow-index in
    all_added (IsArrow c.args.picture.now) (take i arrows) c.args.picture.now.arrows.items c.args.out.now.items c.loop-arrow.out.items
    (taken_all arrows c.args.picture.now.arrows.items i c.loop-arrow-test.false c.as_slice-arrows.ensures.value) c.loop-arrow.invariant
