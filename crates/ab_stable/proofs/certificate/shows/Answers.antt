use Rattle.std.proofs.Common.{ap, ◌∙◌}
use Rattle.ab_abs.specs.Observations.{has_front}
use Rattle.ab_stable.proofs.BasedLemmas.{whole_shows}
use Rattle.ab_stable.proofs.certificate.shows.Goals as goal

pub returns : goal.returns
returns c = c.has_front.ensures ∙ ap (has_front c.args.h.now c.args.k) c.digest_at.ensures ∙ whole_shows c.args.h.now c.args.k _
