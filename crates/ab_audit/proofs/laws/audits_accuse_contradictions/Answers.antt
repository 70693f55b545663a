use Rattle.ab_audit.proofs.AccusedLemmas.{accused_exactly, accused_once, evidence_kept}
use Rattle.ab_audit.proofs.laws.audits_accuse_contradictions.Goals as goal

pub returns-clause-accused : goal.returns-clause-accused
returns-clause-accused c = λ keys inputs a small.
    accused_exactly c.claims_are_checked.ensures c.messages_are_formats.ensures c.opened_messages_are_of_the_grammar.ensures.claims c.contents_have_their_own_bytes.ensures keys inputs small a

pub returns-clause-once : goal.returns-clause-once
returns-clause-once c = accused_once

pub returns-clause-shown : goal.returns-clause-shown
returns-clause-shown c = evidence_kept
