use Rattle.std.proofs.Common.{◌≡◌, ◌++◌, flat_map}
use Rattle.std.specs.List.{range_with_len}
use Rattle.ab_num.specs.declared.party.Party.TheVariants.{Client}
use Rattle.ab_picture.specs.Lanes.{party_lanes}
use Rattle.ab_picture.proofs.lanes.add_clients.Given as goal

abbrev pub invariant-loop-c : goal.invariant-loop-c
invariant-loop-c l = l.lanes.items ≡ l.fn.lanes.items ++ flat_map (λ c. party_lanes l.faulty (Client c)) (range_with_len 0 l.c)
