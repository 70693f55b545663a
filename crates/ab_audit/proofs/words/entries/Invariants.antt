use Rattle.std.proofs.Common.{◌≡◌, ◌++◌, map}
use Rattle.ab_form.specs.Readers.{listed}
use Rattle.ab_hist.specs.Requests.{key_of}
use Rattle.ab_content.specs.Parts.{any_request_at}
use Rattle.ab_content.specs.Views.{history}
use Rattle.ab_audit.proofs.words.entries.Given as goal

abbrev pub invariant-requests : goal.invariant-requests
invariant-requests l =
    (goal.iterator-requests).can_next l.request-iterator × (goal.iterator-requests).is_finite l.request-iterator
    × (l.entries.items ++ map key_of (listed any_request_at l.request-iterator.count l.request-iterator.bytes.now) ≡ map key_of (history l.history))
