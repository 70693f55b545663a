use Rattle.ab_keys.proofs.RingLemmas.{key_to-ring_of, key_from-ring_of}
use Rattle.ab_keys.proofs.laws.derived_keys.Goals as goal

pub returns-clause-to : goal.returns-clause-to
returns-clause-to c = key_to-ring_of

pub returns-clause-from : goal.returns-clause-from
returns-clause-from c = key_from-ring_of
