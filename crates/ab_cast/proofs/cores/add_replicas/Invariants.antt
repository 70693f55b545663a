use Rattle.std.proofs.Common.{◌≡◌, ◌++◌}
use Rattle.std.specs.Prelude.{replicate}
use Rattle.ab_cast.specs.Casts.{first_site}
use Rattle.ab_cast.proofs.cores.add_replicas.Given as goal

abbrev pub invariant-loop : goal.invariant-loop
invariant-loop g l = l.twins.items ≡ l.fn.twins.items ++ replicate l.counter (first_site l.setup g.P.Protocol.proto l.me)
