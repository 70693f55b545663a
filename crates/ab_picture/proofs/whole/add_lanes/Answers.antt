use Rattle.std.specs.List.{enumerate_from}
use Rattle.std.proofs.Common.{◌+◌, None, false, take, ap, arith}
use Rattle.ab_num.specs.declared.party.Party.TheVariants.{Replica}
use Rattle.ab_picture.specs.declared.picture.Lane.{Lane}
use Rattle.ab_picture.specs.Elements.{IsLane}
use Rattle.ab_picture.proofs.ListLemmas.{all_added, none_added, numbered_item, one_added, taken_all}
use Rattle.ab_picture.proofs.whole.add_lanes.Goals as goal

pub loop-i-init : goal.loop-i-init
loop-i-init c = none_added (IsLane c.args.picture.now) c.args.out.now.items

pub loop-i-preserved : goal.loop-i-preserved
loop-i-preserved c =
    let lanes = c.as_slice-lanes.result.now in
    let i = c.loop-i.i in
    let old = c.loop-i.out.items in
    let new = c.add_lane.new.out.items in
    let none : Lane = record { core = record { party = Replica 0; twin = None }; faulty = false } in
    one_added (IsLane c.args.picture.now) (enumerate_from 0 (take i lanes)) _ (enumerate_from 0 (take (i + 1) lanes)) c.args.out.now.items old new
    (numbered_item 0 lanes i i none c.loop-i-test.true (omega arith)) c.loop-i.invariant
    c.in_ok-add_lane.ensures

pub returns : goal.returns
returns c =
    let lanes = c.as_slice-lanes.result.now in
    let i = c.loop-i.i in
    all_added (IsLane c.args.picture.now) (enumerate_from 0 (take i lanes)) (enumerate_from 0 c.args.picture.now.lanes.items) c.args.out.now.items c.loop-i.out.items
    (ap (enumerate_from 0) (taken_all lanes c.args.picture.now.lanes.items i c.loop-i-test.false c.as_slice-lanes.ensures.value)) c.loop-i.invariant
