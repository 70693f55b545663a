use Rattle.std.proofs.Common.{◌-◌}
use Rattle.ab_form.proofs.LoopLemmas.{IsAt}
use Rattle.ab_form.specs.Lists.{times}
use Rattle.ab_form.proofs.list_ref.list_end.Given as goal

abbrev pub invariant-parts : goal.invariant-parts
invariant-parts g l = IsAt (λ (_ : Unit {0}). g.P.Part.reader) (λ s _. s) (times g.P.Part.reader l.count l.bytes) (l.count - l.counter) tt l.rest
