use Rattle.std.proofs.Common.{◌≡◌, ◌||◌, map}
use Rattle.ab_links.specs.Digested.{any_found, keep_items}
use Rattle.ab_links.specs.Digested.{request as request_item}
use Rattle.ab_form.specs.Readers.{listed}
use Rattle.ab_content.specs.Parts.{any_request_at}
use Rattle.ab_premise.proofs.looking.look_at_requests.Given as goal

-- what is left is looked at
abbrev pub invariant-requests : goal.invariant-requests
invariant-requests l = record {
  next : (goal.iterator-requests).can_next l.request-iterator;
  finite : (goal.iterator-requests).is_finite l.request-iterator;
  keeps : keep_items l.digests (map request_item (listed any_request_at l.request-iterator.count l.request-iterator.bytes.now)) ≡ keep_items l.initial.digests (map request_item (listed any_request_at l.fn.requests.count l.fn.requests.bytes.now));
  finds : (l.found || any_found l.digests (map request_item (listed any_request_at l.request-iterator.count l.request-iterator.bytes.now))) ≡ any_found l.initial.digests (map request_item (listed any_request_at l.fn.requests.count l.fn.requests.bytes.now));
}
