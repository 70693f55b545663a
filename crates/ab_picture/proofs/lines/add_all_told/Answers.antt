use Rattle.std.proofs.Common.{◌+◌, refl, take}
use Rattle.ab_picture.specs.Telling.{IsLabel}
use Rattle.ab_picture.proofs.ListLemmas.{all_added, none_added, one_added, taken_all, taken_item}
use Rattle.ab_picture.proofs.lines.add_all_told.Goals as goal

pub loop-mark-init : goal.loop-mark-init
loop-mark-init c = none_added IsLabel c.args.out.now.items

pub loop-mark-preserved : goal.loop-mark-preserved
loop-mark-preserved c =
    let marks = c.args.marks.now in
    let i = c.loop-mark.mark-index in
    let m = c.mark-item.result in
    one_added IsLabel (take i marks) m (take (i + 1) marks) c.args.out.now.items c.loop-mark.out.items c.add_told.new.out.items
    (taken_item marks i m c.loop-mark-test.true c.mark-item.is) c.loop-mark.invariant c.in_ok-pen.ensures

pub returns : goal.returns
returns c =
    let marks = c.args.marks.now in
    let i = c.loop-mark.mark-index in
    all_added IsLabel (take i marks) marks c.args.out.now.items c.loop-mark.out.items (taken_all marks marks i c.loop-mark-test.false refl) c.loop-mark.invariant
