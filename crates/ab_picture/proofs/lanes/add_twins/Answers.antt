use Rattle.std.proofs.Common.{◌+◌, arith}
use Rattle.ab_picture.specs.Lanes.{twin_lane}
use Rattle.ab_picture.proofs.Gathering.{mapped_number}
use Rattle.ab_picture.proofs.lanes.add_twins.Goals as goal

pub loop-earlier-preserved : goal.loop-earlier-preserved
loop-earlier-preserved c =
    mapped_number (twin_lane c.args.party) c.args.lanes.now.items c.loop-earlier.lanes.items c.push.new.self.items
    1 c.loop-earlier.earlier (c.loop-earlier.earlier + 1) (omega arith) c.loop-earlier.invariant c.in_ok-push.ensures.items
