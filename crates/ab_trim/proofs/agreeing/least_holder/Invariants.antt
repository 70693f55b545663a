use Rattle.std.proofs.Common.{◌≡◌, ◌-◌, length, drop}
use Rattle.std.specs.Option.{option_map}
use Rattle.ab_trim.specs.Points.{lists_in, least_holder}
use Rattle.ab_trim.proofs.agreeing.least_holder.Given as goal

abbrev pub invariant-loop-k : goal.invariant-loop-k
invariant-loop-k l = option_map (λ t. t.now.list) l.best ≡ least_holder l.n l.digest (drop (length l.lists - l.k) (lists_in l.lists))
