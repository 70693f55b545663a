use Rattle.std.proofs.Common.{◌≡◌}
use Rattle.ab_cast.specs.Casts.{first_sites}
use Rattle.ab_cast.proofs.cores.first_replicas.Given as goal

abbrev pub invariant-loop-me : goal.invariant-loop-me
invariant-loop-me g l = l.replicas.items ≡ first_sites l.setup g.P.Protocol.proto l.me
