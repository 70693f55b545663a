use Rattle.std.proofs.Common.{◌≡◌, drop, map, option_map}
use Rattle.ab_trim.specs.Points.{lists_in}
use Rattle.ab_stable.specs.Offers.{all_stated}
use Rattle.ab_stable.proofs.ReadingLemmas.{gone_over}
use Rattle.ab_stable.proofs.owned.lists_in.Given as goal

-- those that were gone over, and the rest
abbrev pub invariant-aborts : goal.invariant-aborts
invariant-aborts l =
    gone_over (λ v. v.list) (lists_in l.lists.items) (all_stated l.c l.j (drop l.abort-index l.aborts)) ≡ option_map (map (λ v. v.list)) (all_stated l.c l.j l.aborts)
