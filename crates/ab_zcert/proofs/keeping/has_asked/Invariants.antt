use Rattle.std.proofs.Common.{◌≡◌, false, take}
use Rattle.ab_zcert.specs.Rules.{has_asked}
use Rattle.ab_zcert.proofs.keeping.has_asked.Given as goal

abbrev pub invariant-entries : goal.invariant-entries
invariant-entries l = has_asked (take l.before l.log) l.client l.stamp ≡ false
