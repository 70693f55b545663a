use Rattle.std.proofs.Common.{◌≡◌, ◌≤◌, length}
use Rattle.ab_protocol_trials.proofs.views.tree_of.Given as goal

abbrev pub invariant-aborts : goal.invariant-aborts
invariant-aborts l =
    (goal.iterator-aborts).can_next l.abort-iterator × (goal.iterator-aborts).is_finite l.abort-iterator × (length l.tree ≡ l.count) × (l.count ≤ 7)
