use Rattle.ab_audit.proofs.AccusedLemmas.{evidence_shows}
use Rattle.ab_audit.proofs.laws.evidence_contradicts.Goals as goal

pub returns : goal.returns
returns c = λ keys inputs a small.
    evidence_shows c.claims_are_checked.ensures c.messages_are_formats.ensures c.opened_messages_are_of_the_grammar.ensures.claims c.contents_have_their_own_bytes.ensures keys inputs small a
