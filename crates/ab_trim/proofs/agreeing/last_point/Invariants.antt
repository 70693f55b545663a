use Rattle.ab_trim.specs.Points.{lists_in}
use Rattle.ab_trim.proofs.FoundLemmas.{IsLastAmong}
use Rattle.ab_trim.proofs.agreeing.last_point.Given as goal

abbrev pub invariant-loop-list : goal.invariant-loop-list
invariant-loop-list l = IsLastAmong l.q (lists_in l.lists) l.list-index l.best
