use Rattle.sha2.specs.Hashers.{Holds256}
use Rattle.std.proofs.Common.{◌++◌, ◌∷◌}
use Rattle.ab_lms.specs.OneTime.{whole_chains, leaf}
use Rattle.ab_lms.proofs.one_time.key_once.Given as goal

abbrev pub invariant-chains : goal.invariant-chains
invariant-chains l = Holds256 l.hasher (leaf l.id l.q ++ 0x80 ∷ 0x80 ∷ whole_chains l.id l.q l.seed l.i)
