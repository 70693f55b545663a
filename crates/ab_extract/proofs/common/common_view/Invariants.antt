use Rattle.std.proofs.Common.{◌≡◌, ◌+◌, ◌≤◌, length, drop}
use Rattle.ab_form.specs.Readers.{listed}
use Rattle.ab_content.specs.Parts.{any_request_at}
use Rattle.ab_content.specs.Views.{history}
use Rattle.ab_extract.specs.Walks.{common_of}
use Rattle.ab_extract.proofs.common.common_view.Given as goal

abbrev pub invariant-entries : goal.invariant-entries
invariant-entries l =
    (goal.iterator-entries).can_next l.m-iterator × (goal.iterator-entries).is_finite l.m-iterator × (l.n ≤ length l.b)
    × (l.n + common_of (listed any_request_at l.m-iterator.count l.m-iterator.bytes.now) (drop l.n l.b) ≡ common_of (history l.a) l.b)
