use Rattle.std.proofs.Common.{arith}
use Rattle.ab_cast.proofs.SetupLemmas.{one_twin_more}
use Rattle.ab_cast.proofs.setup.add_twins.Goals as goal

pub loop-earlier-preserved : goal.loop-earlier-preserved
loop-earlier-preserved g c =
    record {
      added = one_twin_more c.args.twins.now.items c.loop-earlier.twins.items c.push.new.self.items c.args.number c.loop-earlier.earlier
          c.loop-earlier.invariant.first c.loop-earlier.invariant.added c.in_ok-push.ensures.items;
      first = omega arith;
      within = omega arith;
    }
