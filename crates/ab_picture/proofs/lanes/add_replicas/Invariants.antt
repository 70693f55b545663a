use Rattle.std.proofs.Common.{◌≡◌, ◌++◌, flat_map}
use Rattle.std.specs.List.{range_with_len}
use Rattle.ab_num.specs.declared.party.Party.TheVariants.{Replica}
use Rattle.ab_picture.specs.Lanes.{party_lanes}
use Rattle.ab_picture.proofs.lanes.add_replicas.Given as goal

abbrev pub invariant-loop-r : goal.invariant-loop-r
invariant-loop-r l = l.lanes.items ≡ l.fn.lanes.items ++ flat_map (λ r. party_lanes l.faulty (Replica r)) (range_with_len 0 l.r)
