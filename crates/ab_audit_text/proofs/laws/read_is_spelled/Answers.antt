use Rattle.ab_audit_text.proofs.TextLemmas.{read_was}
use Rattle.ab_audit_text.proofs.laws.read_is_spelled.Goals as goal

pub returns : goal.returns
returns c = read_was
