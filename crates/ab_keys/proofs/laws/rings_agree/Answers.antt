use Rattle.ab_keys.proofs.RingLemmas.{tags_agree, tag_is_there}
use Rattle.ab_keys.proofs.laws.rings_agree.Goals as goal

pub returns-clause-agree : goal.returns-clause-agree
returns-clause-agree c = tags_agree

pub returns-clause-there : goal.returns-clause-there
returns-clause-there c = tag_is_there
