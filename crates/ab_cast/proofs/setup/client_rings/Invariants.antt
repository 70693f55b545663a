use Rattle.std.proofs.Common.{◌≡◌, map}
use Rattle.std.specs.List.{range_with_len}
use Rattle.ab_num.specs.declared.party.Party.TheVariants.{Client}
use Rattle.ab_keys.specs.Rings.{ring_of}
use Rattle.ab_cast.proofs.setup.client_rings.Given as goal

abbrev pub invariant-loop-n : goal.invariant-loop-n
invariant-loop-n l = l.rings.items ≡ map (λ n. ring_of l.c.f l.c.clients l.c.plan l.seed (Client n)) (range_with_len 0 l.n)
