use Rattle.std.proofs.Common.{◌≡◌}
use Rattle.ab_cast.specs.Casts.{first_seats}
use Rattle.ab_cast.proofs.cores.first_clients.Given as goal

abbrev pub invariant-loop-me : goal.invariant-loop-me
invariant-loop-me l = l.clients.items ≡ first_seats l.cluster l.me
