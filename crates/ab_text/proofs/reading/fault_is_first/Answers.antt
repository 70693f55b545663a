use Rattle.ab_text.proofs.FaultLemmas.{bad_line, missing_end, unbuilt_line}
use Rattle.ab_text.proofs.FrontLemmas.{bad_front, end_front, unbuilt_front}
use Rattle.ab_text.proofs.reading.fault_is_first.Goals as goal

pub returns-clause-bad : goal.returns-clause-bad
returns-clause-bad c text n h = bad_line text n h

pub returns-clause-no_end : goal.returns-clause-no_end
returns-clause-no_end c text n h = missing_end text n h

pub returns-clause-not_built : goal.returns-clause-not_built
returns-clause-not_built c text n h = unbuilt_line text n h

pub returns-clause-before_bad : goal.returns-clause-before_bad
returns-clause-before_bad c text n h = bad_front text n h

pub returns-clause-before_no_end : goal.returns-clause-before_no_end
returns-clause-before_no_end c text n h = end_front text n h

pub returns-clause-before_not_built : goal.returns-clause-before_not_built
returns-clause-before_not_built c text n h = unbuilt_front text n h
