use Rattle.sha2.specs.Hashers.{Holds256}
use Rattle.std.proofs.Common.{◌++◌, ◌∷◌}
use Rattle.ab_lms.specs.OneTime.{ends, leaf}
use Rattle.ab_lms.proofs.one_time.key_of_values.Given as goal

abbrev pub invariant-chains : goal.invariant-chains
invariant-chains l = Holds256 l.hasher (leaf l.id l.q ++ 0x80 ∷ 0x80 ∷ ends l.id l.q l.digits l.values l.i)
