use Rattle.std.proofs.Common.{◌≡◌, map}
use Rattle.ab_pbft_rules.specs.Rules.{change_of}
use Rattle.ab_slots.proofs.reading.into_changes.Given as goal

abbrev pub invariant-changes : goal.invariant-changes
invariant-changes l = l.all.items ≡ map change_of l.yielded
