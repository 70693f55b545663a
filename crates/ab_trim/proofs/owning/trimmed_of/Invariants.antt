use Rattle.std.proofs.Common.{drop}
use Rattle.ab_trim.proofs.OwnedLemmas.{IsFrontOf}
use Rattle.ab_trim.proofs.owning.trimmed_of.Given as goal

-- those that were gone over are its own
abbrev pub invariant-entries : goal.invariant-entries
invariant-entries l = IsFrontOf l.own (record { start = l.start; digest = l.digest; rest = l.rest }) (drop l.n l.rest)
