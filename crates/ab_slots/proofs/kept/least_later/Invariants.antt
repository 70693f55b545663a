use Rattle.std.proofs.Common.{◌≡◌, ◌≤◌, drop, length}
use Rattle.ab_pbft_rules.specs.Rules.{least_above}
use Rattle.ab_slots.proofs.kept.least_later.Given as goal

abbrev pub invariant-kept : goal.invariant-kept
invariant-kept l = (l.least ≡ least_above l.view (drop l.i l.kept)) × (l.i ≤ length l.kept)

abbrev pub decreases-kept : goal.decreases-kept
decreases-kept l = l.i
