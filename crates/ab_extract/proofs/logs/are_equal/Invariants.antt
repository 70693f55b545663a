use Rattle.std.proofs.Common.{◌≡◌}
use Rattle.std.specs.Cmp.Lexicographic.{pointwise}
use Rattle.ab_hist.specs.Requests.{request_eq}
use Rattle.ab_form.specs.Readers.{listed}
use Rattle.ab_content.specs.Parts.{any_request_at}
use Rattle.ab_content.specs.Views.{history}
use Rattle.ab_extract.proofs.logs.are_equal.Given as goal

abbrev pub invariant-entries : goal.invariant-entries
invariant-entries l =
    (goal.iterator-entries).can_next l.m-iterator × (goal.iterator-entries).is_finite l.m-iterator
    × (pointwise request_eq (listed any_request_at l.m-iterator.count l.m-iterator.bytes.now) (listed any_request_at l.others.count l.others.bytes.now) ≡ pointwise request_eq (history l.a) (history l.b))
