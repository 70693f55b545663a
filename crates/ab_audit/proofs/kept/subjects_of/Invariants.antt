use Rattle.std.proofs.Common.{◌≡◌, ◌++◌, map}
use Rattle.ab_audit.proofs.kept.subjects_of.Given as goal

abbrev pub invariant-others : goal.invariant-others
invariant-others l = l.subjects.items ++ l.subject-iterator ≡ map (λ e. e.0) l.others.entries
