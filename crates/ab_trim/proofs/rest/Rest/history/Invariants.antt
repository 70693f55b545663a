use Rattle.std.proofs.Common.{◌≡◌, take}
use Rattle.ab_trim.proofs.rest.Rest.history.Given as goal

abbrev pub invariant-entries : goal.invariant-entries
invariant-entries l = l.h ≡ take l.n l.self.requests
