use Rattle.std.proofs.Common.{◌≡◌, take, drop}
use Rattle.ab_replica.proofs.rest.rest_of.Given as goal

abbrev pub invariant-entries : goal.invariant-entries
invariant-entries l = l.rest ≡ take l.k (drop l.n l.log)
