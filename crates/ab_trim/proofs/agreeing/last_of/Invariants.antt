use Rattle.ab_trim.specs.Points.{lists_in}
use Rattle.ab_trim.proofs.FoundLemmas.{NoneFromEnd}
use Rattle.ab_trim.proofs.agreeing.last_of.Given as goal

abbrev pub invariant-loop-k : goal.invariant-loop-k
invariant-loop-k l = NoneFromEnd l.q (lists_in l.lists) l.list.list l.k
