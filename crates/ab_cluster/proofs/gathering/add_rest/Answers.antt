use Rattle.std.proofs.Common.{arith}
use Rattle.ab_cluster.specs.Gathering.{outcome_of}
use Rattle.std.specs.Prelude.{map, length}
use Rattle.ab_cluster.proofs.ChildLemmas.{length_more, rest_more}
use Rattle.ab_cluster.proofs.gathering.add_rest.Goals as goal

pub loop-preserved : goal.loop-preserved
loop-preserved c = record {
  count = length_more c.loop.all.items c.push.new.self.items _ c.loop.counter c.in-Ok.ensures.items c.loop.invariant.count;
  before = omega (arith, c.loop.invariant.before);
  room = omega (arith, c.loop.invariant.room, c.push.ensures.capacity);
  outcomes = rest_more c.loop.all.items c.push.new.self.items (map outcome_of c.args.all.now.items) (length c.args.all.now.items) c.loop.counter c.in-Ok.ensures.items c.loop.invariant.before c.loop.invariant.outcomes;
}
