use Rattle.std.proofs.Common.{refl, arith}
use Rattle.ab_cluster.proofs.ChildLemmas.{closes_all, closes_more, faults_next, length_more, next_is_open, outcomes_more, right_next}
use Rattle.ab_cluster.proofs.gathering.wait_all.Goals as goal

pub wait_one-ended-requires : goal.wait_one-ended-requires
wait_one-ended-requires g c =
    next_is_open (g.W.Spawner.state c.args.w.now).told (g.W.Spawner.state c.loop-child.w).told c.args.children.now c.loop-child.child-index _ c.requires.these c.loop-child.invariant.told c.loop-child-test.true refl

pub loop-child-preserved : goal.loop-child-preserved
loop-child-preserved g c =
    let old = g.W.Spawner.state c.args.w.now in
    let now = g.W.Spawner.state c.loop-child.w in
    let next = g.W.Spawner.state c.wait_one-ended.new.w in
    let xs = c.loop-child.all.items in
    let ys = c.push.new.self.items in
    let e = c.wait_one-ended.result in
    let more = c.in-Ok.ensures.items in
    let children = c.args.children.now in
    let i = c.loop-child.child-index in
    record {
      count = length_more xs ys _ i more c.loop-child.invariant.count;
      room = omega (arith, c.loop-child.invariant.room, c.push.ensures.capacity);
      told = closes_more old.told now.told next.told children i _ c.loop-child.invariant.told c.loop-child-test.true refl c.wait_one-ended.ensures.told;
      outcomes = outcomes_more xs ys e more c.loop-child.invariant.outcomes;
      right = right_next old.told now.told children i _ xs ys e more c.requires.these c.loop-child.invariant.told c.loop-child-test.true refl c.loop-child.invariant.count c.loop-child.invariant.right
          c.wait_one-ended.ensures.right;
      later = omega (arith, c.loop-child.invariant.later, c.wait_one-ended.ensures.later);
      faults = λ whole. faults_next xs ys e old.faults now.faults next.faults more (c.loop-child.invariant.faults (c.wait_one-ended.ensures.before whole)) (c.wait_one-ended.ensures.faults whole);
    }

pub returns-then-short-clause-told : goal.returns-then-short-clause-told
returns-then-short-clause-told g c = closes_all (g.W.Spawner.state c.args.w.now).told (g.W.Spawner.state c.loop-child.w).told c.args.children.now c.loop-child.child-index c.loop-child.invariant.told c.loop-child-test.false

pub returns-else-short-clause-told : goal.returns-else-short-clause-told
returns-else-short-clause-told g c = closes_all (g.W.Spawner.state c.args.w.now).told (g.W.Spawner.state c.loop-child.w).told c.args.children.now c.loop-child.child-index c.loop-child.invariant.told c.loop-child-test.false
