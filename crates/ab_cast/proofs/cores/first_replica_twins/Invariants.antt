use Rattle.std.proofs.Common.{◌≡◌, map, take}
use Rattle.ab_cast.specs.Casts.{first_site}
use Rattle.ab_cast.specs.Setups.{replica_twins}
use Rattle.ab_cast.proofs.cores.first_replica_twins.Given as goal

abbrev pub invariant-loop-entry : goal.invariant-loop-entry
invariant-loop-entry g l = l.twins.items ≡ map (λ k. first_site l.setup g.P.Protocol.proto k.0) (replica_twins (take l.entry-index l.entry-items))
