use Rattle.std.proofs.Common.{◌≡◌, ◌+◌, map}
use Rattle.std.specs.List.{range_with_len}
use Rattle.ab_num.specs.declared.party.Party.TheVariants.{Replica}
use Rattle.ab_num.specs.Places.{at_position_of}
use Rattle.ab_seal.specs.Sealing.{tag_for}
use Rattle.ab_seal.proofs.chain.forward_tags.Given as goal

abbrev pub invariant-positions : goal.invariant-positions
invariant-positions l = l.tags.items ≡ map (λ q. tag_for l.k l.text (Replica (at_position_of l.c.f l.instance q))) (range_with_len (l.p + 1) l.i)
