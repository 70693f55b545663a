use Rattle.std.proofs.Common.{◌≡◌, ◌++◌}
use Rattle.std.specs.Prelude.{replicate}
use Rattle.ab_cast.specs.Casts.{first_seat}
use Rattle.ab_cast.proofs.cores.add_clients.Given as goal

abbrev pub invariant-loop : goal.invariant-loop
invariant-loop l = l.twins.items ≡ l.fn.twins.items ++ replicate l.counter (first_seat l.cluster l.me)
