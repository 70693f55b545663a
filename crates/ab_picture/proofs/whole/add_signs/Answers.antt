use Rattle.std.specs.Prelude.{string_bytes}
use Rattle.std.proofs.Common.{◌+◌, take}
use Rattle.ab_picture.specs.Elements.{IsSign}
use Rattle.ab_picture.proofs.ListLemmas.{all_added, none_added, one_added, step, taken_all, taken_item}
use Rattle.ab_picture.proofs.whole.add_signs.Goals as goal

pub loop-mark-init : goal.loop-mark-init
loop-mark-init c = none_added (IsSign c.args.picture.now) c.args.out.now.items

pub loop-mark-preserved : goal.loop-mark-preserved
loop-mark-preserved c =
    let marks = c.as_slice-marks.result.now in
    let i = c.loop-mark.mark-index in
    let old = c.loop-mark.out.items in
    one_added (IsSign c.args.picture.now) (take i marks) c.mark-item.result (take (i + 1) marks) c.args.out.now.items old c.add.new.out.items
    (taken_item marks i c.mark-item.result c.loop-mark-test.true c.mark-item.is) c.loop-mark.invariant
    (step (IsSign c.args.picture.now) c.mark-item.result old c.add.new.out.items (string_bytes c.in_ok-sign.sign) c.in_ok-sign.ensures c.in_ok-add.ensures)

pub returns : goal.returns
returns c =
    let marks = c.as_slice-marks.result.now in
    let i = c.loop-mark.mark-index in
    all_added (IsSign c.args.picture.now) (take i marks) c.args.picture.now.marks.items c.args.out.now.items c.loop-mark.out.items
    (taken_all marks c.args.picture.now.marks.items i c.loop-mark-test.false c.as_slice-marks.ensures.value) c.loop-mark.invariant
