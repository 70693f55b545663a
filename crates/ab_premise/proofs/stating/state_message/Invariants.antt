use Rattle.std.proofs.Common.{◌≡◌, map}
use Rattle.std.specs.List.{fold}
use Rattle.ab_run.specs.Stages.{keep}
use Rattle.ab_premise.proofs.stating.state_message.Given as goal

abbrev pub invariant-texts : goal.invariant-texts
invariant-texts l = l.made ≡ fold keep l.initial.made (map (λ text. text.items) l.yielded)
