use Rattle.ab_form.specs.Readers.{listed}
use Rattle.ab_content.specs.Parts.{any_request_at}
use Rattle.ab_content.specs.Views.{trimmed}
use Rattle.ab_trim.proofs.OwnedLemmas.{IsFrontOf}
use Rattle.ab_trim.proofs.owning.own_trimmed.Given as goal

-- those that were gone over are its own
abbrev pub invariant-entries : goal.invariant-entries
invariant-entries l =
    (goal.iterator-entries).can_next l.m-iterator × (goal.iterator-entries).is_finite l.m-iterator
    × IsFrontOf l.own (trimmed l.list) (listed any_request_at l.m-iterator.count l.m-iterator.bytes.now)
