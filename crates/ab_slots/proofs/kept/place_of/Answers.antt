use Rattle.std.proofs.Common.{◌∙◌}
use Rattle.ab_slots.proofs.KeptLemmas.{place_counted}
use Rattle.ab_slots.proofs.kept.place_of.Goals as goal

pub returns-clause-place : goal.returns-clause-place
returns-clause-place c = c.count_lower.ensures ∙ place_counted c.args.by c.args.kept.now
