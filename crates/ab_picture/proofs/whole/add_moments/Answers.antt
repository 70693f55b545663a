use Rattle.std.specs.Prelude.{string_bytes}
use Rattle.std.specs.List.{enumerate_from}
use Rattle.std.proofs.Common.{◌+◌, None, false, take, ap, arith}
use Rattle.ab_picture.specs.declared.picture.Trigger.TheVariants.{Invoked}
use Rattle.ab_picture.specs.declared.picture.Moment.{Moment}
use Rattle.ab_picture.specs.Elements.{IsMoment}
use Rattle.ab_picture.proofs.ListLemmas.{all_added, none_added, numbered_item, one_added, step, taken_all}
use Rattle.ab_picture.proofs.whole.add_moments.Goals as goal

pub loop-i-init : goal.loop-i-init
loop-i-init c = none_added (IsMoment c.args.picture.now) c.args.out.now.items

pub loop-i-preserved : goal.loop-i-preserved
loop-i-preserved c =
    let moments = c.as_slice-moments.result.now in
    let i = c.loop-i.i in
    let old = c.loop-i.out.items in
    let new = c.add.new.out.items in
    let none : Moment = record { core = None; trigger = Invoked; panics = false } in
    one_added (IsMoment c.args.picture.now) (enumerate_from 1 (take i moments)) _ (enumerate_from 1 (take (i + 1) moments)) c.args.out.now.items old new
    (numbered_item 1 moments i (i + 1) none c.loop-i-test.true (omega arith)) c.loop-i.invariant
    (step (IsMoment c.args.picture.now) _ old new (string_bytes c.in_ok-sign.sign) c.in_ok-sign.ensures c.in_ok-add.ensures)

pub returns : goal.returns
returns c =
    let moments = c.as_slice-moments.result.now in
    let i = c.loop-i.i in
    all_added (IsMoment c.args.picture.now) (enumerate_from 1 (take i moments)) (enumerate_from 1 c.args.picture.now.moments.items) c.args.out.now.items c.loop-i.out.items
    (ap (enumerate_from 1) (taken_all moments c.args.picture.now.moments.items i c.loop-i-test.false c.as_slice-moments.ensures.value)) c.loop-i.invariant
