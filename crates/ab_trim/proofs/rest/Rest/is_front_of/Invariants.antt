use Rattle.std.proofs.Common.{◌≡◌, take}
use Rattle.ab_trim.proofs.rest.Rest.is_front_of.Given as goal

abbrev pub invariant-entries : goal.invariant-entries
invariant-entries l = take l.k l.r.requests ≡ take l.k l.self.requests
