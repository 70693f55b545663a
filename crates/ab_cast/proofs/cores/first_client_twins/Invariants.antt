use Rattle.std.proofs.Common.{◌≡◌, map, take}
use Rattle.ab_cast.specs.Setups.{client_twins}
use Rattle.ab_cast.specs.Casts.{first_seat}
use Rattle.ab_cast.proofs.cores.first_client_twins.Given as goal

abbrev pub invariant-loop-entry : goal.invariant-loop-entry
invariant-loop-entry l = l.twins.items ≡ map (λ k. first_seat l.setup.cluster k.0) (client_twins (take l.entry-index l.entry-items))
