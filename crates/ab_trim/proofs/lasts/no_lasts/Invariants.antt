use Rattle.std.proofs.Common.{◌≡◌, replicate, None}
use Rattle.ab_trim.proofs.lasts.no_lasts.Given as goal

abbrev pub invariant-clients : goal.invariant-clients
invariant-clients l = l.lasts.items ≡ replicate l.counter None
