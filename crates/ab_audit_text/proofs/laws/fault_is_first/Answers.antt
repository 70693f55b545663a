use Rattle.ab_audit_text.proofs.FirstLemmas.{none_begins, quiet_before}
use Rattle.ab_audit_text.proofs.laws.fault_is_first.Goals as goal

pub returns-clause-bad : goal.returns-clause-bad
returns-clause-bad c = none_begins

pub returns-clause-before : goal.returns-clause-before
returns-clause-before c = quiet_before
