use Rattle.std.proofs.Common.{◌≡◌, drop}
use Rattle.ab_pbft_rules.specs.Rules.{first_fit}
use Rattle.ab_slots.proofs.waiting.first_fit.Given as goal

abbrev pub invariant-kept : goal.invariant-kept
invariant-kept l = first_fit l.accepted l.kept ≡ first_fit l.accepted (drop l.m-index l.kept)
