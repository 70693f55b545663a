use Rattle.ab_num.specs.declared.party.Party.TheVariants.{Client}
use Rattle.ab_picture.specs.Lanes.{party_lanes}
use Rattle.ab_picture.proofs.Gathering.{gathered_number}
use Rattle.ab_picture.proofs.lanes.add_clients.Goals as goal

pub loop-c-preserved : goal.loop-c-preserved
loop-c-preserved c =
    gathered_number (λ n. party_lanes c.args.faulty.now (Client n)) c.args.lanes.now.items c.loop-c.lanes.items c.add_lanes.new.lanes.items
    c.loop-c.c c.loop-c.invariant c.in_ok-add_lanes.ensures
