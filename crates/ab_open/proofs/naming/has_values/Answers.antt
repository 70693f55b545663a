use Rattle.std.proofs.Common.{sym, ◌∙◌}
use Rattle.ab_form.specs.Readers.{listed}
use Rattle.ab_keys.specs.Keys.{is_party}
use Rattle.ab_content.specs.Parts.{any_request_at}
use Rattle.ab_content.specs.Views.{history}
use Rattle.ab_open.proofs.NamedLemmas.{values-test}
use Rattle.ab_open.proofs.naming.has_values.Goals as goal

pub returns-in-Slots : goal.returns-in-Slots
returns-in-Slots c =
    rw c.in-Slots.is (c.has_slots.ensures ∙ sym (values-test (is_party c.args.k.now.f c.args.k.now.clients) (history c.in-Slots.base.rest) (listed any_request_at c.in-Slots.requests.count c.in-Slots.requests.bytes.now)))
