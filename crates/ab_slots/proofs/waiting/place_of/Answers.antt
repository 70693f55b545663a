use Rattle.std.proofs.Common.{◌∙◌}
use Rattle.ab_slots.proofs.WaitingLemmas.{client_counted}
use Rattle.ab_slots.proofs.waiting.place_of.Goals as goal

pub returns-clause-place : goal.returns-clause-place
returns-clause-place c = c.count_lower.ensures ∙ client_counted c.args.client c.args.kept.now
