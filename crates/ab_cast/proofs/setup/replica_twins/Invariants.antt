use Rattle.std.proofs.Common.{◌≡◌, ◌++◌, drop}
use Rattle.ab_cast.specs.Setups.{replica_twins}
use Rattle.ab_cast.proofs.setup.replica_twins.Given as goal

-- the further cores so far and those of the rest are all
abbrev pub invariant-loop-party : goal.invariant-loop-party
invariant-loop-party l = l.twins.items ++ replica_twins (drop l.party-index l.faulty) ≡ replica_twins l.faulty
