use Rattle.std.proofs.Common.{◌∙◌}
use Rattle.ab_trial.proofs.DigestLemmas.{digest_next}
use Rattle.ab_trial.proofs.trial.digest_with.Goals as goal

pub returns : goal.returns
returns c = digest_next c.args.log.now c.args.m.now c.len.result c.link.result c.digest_at.result c.as_slice.result.now c.len.ensures.len c.digest_at.ensures (c.as_slice.ensures.value ∙ c.bytes.ensures) c.link.ensures
