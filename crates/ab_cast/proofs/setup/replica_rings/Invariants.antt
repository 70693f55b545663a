use Rattle.std.proofs.Common.{◌≡◌, map}
use Rattle.std.specs.List.{range_with_len}
use Rattle.ab_num.specs.declared.party.Party.TheVariants.{Replica}
use Rattle.ab_keys.specs.Rings.{ring_of}
use Rattle.ab_cast.proofs.setup.replica_rings.Given as goal

abbrev pub invariant-loop-r : goal.invariant-loop-r
invariant-loop-r l = l.rings.items ≡ map (λ r. ring_of l.c.f l.c.clients l.c.plan l.seed (Replica r)) (range_with_len 0 l.r)
