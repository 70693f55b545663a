use Rattle.std.proofs.Common.{◌≡◌, drop}
use Rattle.ab_pbft_rules.specs.Rules.{all_apart}
use Rattle.ab_slots.proofs.reading.all_apart.Given as goal

abbrev pub invariant-numbers : goal.invariant-numbers
invariant-numbers l = all_apart l.numbers ≡ all_apart (drop l.i l.numbers)
