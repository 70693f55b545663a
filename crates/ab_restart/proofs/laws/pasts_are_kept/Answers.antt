use Rattle.ab_restart.specs.Pasts.{first_body}
use Rattle.ab_restart.proofs.PastLemmas.{are_kept}
use Rattle.ab_restart.proofs.laws.pasts_are_kept.Goals as goal

pub returns : goal.returns
returns c = λ text bodies events past. are_kept (first_body text) bodies events past
