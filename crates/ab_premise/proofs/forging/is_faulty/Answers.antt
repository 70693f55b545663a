use Rattle.std.proofs.Common.{◌∙◌}
use Rattle.ab_premise.proofs.ClaimLemmas.{faulty_of}
use Rattle.ab_premise.proofs.forging.is_faulty.Goals as goal

pub returns : goal.returns
returns c = c.has.ensures ∙ faulty_of c.args.party c.args.faulty.now
