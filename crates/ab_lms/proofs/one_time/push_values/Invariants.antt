use Rattle.std.proofs.Common.{◌++◌, ◌≡◌}
use Rattle.ab_lms.specs.OneTime.{signed_values}
use Rattle.ab_lms.proofs.one_time.push_values.Given as goal

abbrev pub invariant-chains : goal.invariant-chains
invariant-chains l = l.out.items ≡ l.fn.out.items ++ signed_values l.id l.q l.seed l.digits l.i
