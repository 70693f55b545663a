use Rattle.std.proofs.Common.{◌≡◌}
use Rattle.std.specs.List.{list_all}
use Rattle.ab_keys.specs.Keys.{is_party}
use Rattle.ab_form.specs.Readers.{listed}
use Rattle.ab_content.specs.Parts.{any_request_at}
use Rattle.ab_open.specs.Named.{clients_of}
use Rattle.ab_open.proofs.naming.has_clients.Given as goal

abbrev pub invariant-requests : goal.invariant-requests
invariant-requests l =
    (goal.iterator-requests).can_next l.m-iterator × (goal.iterator-requests).is_finite l.m-iterator
    × (list_all (is_party l.k.f l.k.clients) (clients_of (listed any_request_at l.m-iterator.count l.m-iterator.bytes.now))
    ≡ list_all (is_party l.k.f l.k.clients) (clients_of (listed any_request_at l.fn.requests.count l.fn.requests.bytes.now)))
