use Rattle.std.proofs.Common.{◌≡◌, ◌++◌, drop}
use Rattle.ab_cast.specs.Setups.{client_twins}
use Rattle.ab_cast.proofs.setup.client_twins.Given as goal

-- the further cores so far and those of the rest are all
abbrev pub invariant-loop-party : goal.invariant-loop-party
invariant-loop-party l = l.twins.items ++ client_twins (drop l.party-index l.faulty) ≡ client_twins l.faulty
