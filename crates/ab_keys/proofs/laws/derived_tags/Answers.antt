use Rattle.ab_keys.proofs.RingLemmas.{tag_to-ring_of, tag_from-ring_of}
use Rattle.ab_keys.proofs.laws.derived_tags.Goals as goal

pub returns-clause-to : goal.returns-clause-to
returns-clause-to c = tag_to-ring_of

pub returns-clause-from : goal.returns-clause-from
returns-clause-from c = tag_from-ring_of
