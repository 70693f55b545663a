use Rattle.ab_num.specs.declared.party.Party.TheVariants.{Replica}
use Rattle.ab_picture.specs.Lanes.{party_lanes}
use Rattle.ab_picture.proofs.Gathering.{gathered_number}
use Rattle.ab_picture.proofs.lanes.add_replicas.Goals as goal

pub loop-r-preserved : goal.loop-r-preserved
loop-r-preserved c =
    gathered_number (λ n. party_lanes c.args.faulty.now (Replica n)) c.args.lanes.now.items c.loop-r.lanes.items c.add_lanes.new.lanes.items
    c.loop-r.r c.loop-r.invariant c.in_ok-add_lanes.ensures
