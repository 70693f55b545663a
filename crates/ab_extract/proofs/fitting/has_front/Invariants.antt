use Rattle.std.proofs.Common.{◌≡◌}
use Rattle.ab_form.specs.Readers.{listed}
use Rattle.ab_content.specs.Parts.{any_request_at}
use Rattle.ab_content.specs.Views.{history}
use Rattle.ab_abs.specs.Observations.{has_front}
use Rattle.ab_extract.proofs.FrontLemmas.{front_from}
use Rattle.ab_extract.proofs.fitting.has_front.Given as goal

abbrev pub invariant-entries : goal.invariant-entries
invariant-entries l =
    (goal.iterator-entries).can_next l.m-iterator × (goal.iterator-entries).is_finite l.m-iterator
    × (front_from l.left l.digest (listed any_request_at l.m-iterator.count l.m-iterator.bytes.now) l.d ≡ has_front (history l.log) l.n l.d)
