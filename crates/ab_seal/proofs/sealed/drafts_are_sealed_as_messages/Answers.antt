use Rattle.ab_seal.proofs.DraftLemmas.{length-sealed, tagged-message}
use Rattle.ab_seal.proofs.FreshLemmas.{fresh-fits}
use Rattle.ab_seal.proofs.sealed.drafts_are_sealed_as_messages.Goals as goal

pub returns-clause-grammar : goal.returns-clause-grammar
returns-clause-grammar c = tagged-message

pub returns-clause-size : goal.returns-clause-size
returns-clause-size c = length-sealed

pub returns-clause-contents : goal.returns-clause-contents
returns-clause-contents c = fresh-fits
