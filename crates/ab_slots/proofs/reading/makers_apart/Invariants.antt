use Rattle.std.proofs.Common.{◌≡◌, drop, map}
use Rattle.ab_pbft_rules.specs.Rules.{all_apart}
use Rattle.ab_slots.proofs.reading.makers_apart.Given as goal

abbrev pub invariant-changes : goal.invariant-changes
invariant-changes l = all_apart (map (λ c. c.by) l.changes) ≡ all_apart (map (λ c. c.by) (drop l.i l.changes))
