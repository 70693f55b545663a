use Rattle.std.proofs.Common.{◌≡◌, map, option_map}
use Rattle.ab_wire.specs.Views.{aborts}
use Rattle.ab_stable.specs.Offers.{all_stated}
use Rattle.ab_stable.proofs.ReadingLemmas.{gone_over}
use Rattle.ab_stable.proofs.certificate.voters.Given as goal

-- those that were gone over, and the rest
abbrev pub invariant-aborts : goal.invariant-aborts
invariant-aborts l =
    (goal.iterator-aborts).can_next l.abort-iterator × (goal.iterator-aborts).is_finite l.abort-iterator
    × (gone_over (λ v. v.by) l.by.items (all_stated l.c l.j (aborts l.abort-iterator)) ≡ option_map (map (λ v. v.by)) (all_stated l.c l.j (aborts l.cert)))
