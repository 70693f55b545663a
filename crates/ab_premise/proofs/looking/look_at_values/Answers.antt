use Rattle.std.proofs.Common.{◌≡◌, ◌∷◌, List, map, sym, ap, ◌∙◌}
use Rattle.ab_hist.specs.declared.request.Request.{Request}
use Rattle.ab_form.specs.Readers.{listed}
use Rattle.ab_msg.specs.declared.value.Value.TheVariants as value
use Rattle.ab_content.specs.Parts.{any_request_at}
use Rattle.ab_content.specs.Views.{history as entries}
use Rattle.ab_wire.specs.Views.{values}
use Rattle.ab_premise.proofs.LookLemmas.{values_found, values_kept}
use Rattle.ab_premise.proofs.looking.look_at_values.Goals as goal

pub returns-then-of_base-clause-ok : goal.returns-then-of_base-clause-ok
returns-then-of_base-clause-ok c =
    let given = c.copy_of.result in
    let ms : List Request = listed any_request_at given.count given.bytes.now in
    let are : values c.args.given.now ≡ value.Base (entries c.in-Slots.base.rest) ∷ map value.Request ms =
    ap values c.in-Slots.is ∙ (λ j. value.Base (entries c.in-Slots.base.rest) ∷ map value.Request (listed any_request_at (sym c.copy_of.ensures j).count (sym c.copy_of.ensures j).bytes.now)) in
    values_kept c.args.digests.now c.look_at_received.new.digests (entries c.in-Slots.base.rest) ms (values c.args.given.now) are c.in_ok-of_base-in-Slots.ensures.ok c.look_at_requests.new.digests c.in_ok-of_requests-in-Slots.ensures.ok

pub returns-else-of_base-clause-found : goal.returns-else-of_base-clause-found
returns-else-of_base-clause-found c =
    let given = c.copy_of.result in
    let ms : List Request = listed any_request_at given.count given.bytes.now in
    let are : values c.args.given.now ≡ value.Base (entries c.in-Slots.base.rest) ∷ map value.Request ms =
    ap values c.in-Slots.is ∙ (λ j. value.Base (entries c.in-Slots.base.rest) ∷ map value.Request (listed any_request_at (sym c.copy_of.ensures j).count (sym c.copy_of.ensures j).bytes.now)) in
    values_found c.args.digests.now c.look_at_received.new.digests (entries c.in-Slots.base.rest) ms (values c.args.given.now) are c.in_ok-of_base-in-Slots.ensures.ok c.in_ok-of_base-in-Slots.of_base c.in_ok-of_requests-in-Slots.of_requests
    c.in_ok-of_base-in-Slots.ensures.found c.if-of_base.false c.in_ok-of_requests-in-Slots.ensures.found

pub returns-else-of_base-clause-ok : goal.returns-else-of_base-clause-ok
returns-else-of_base-clause-ok c =
    let given = c.copy_of.result in
    let ms : List Request = listed any_request_at given.count given.bytes.now in
    let are : values c.args.given.now ≡ value.Base (entries c.in-Slots.base.rest) ∷ map value.Request ms =
    ap values c.in-Slots.is ∙ (λ j. value.Base (entries c.in-Slots.base.rest) ∷ map value.Request (listed any_request_at (sym c.copy_of.ensures j).count (sym c.copy_of.ensures j).bytes.now)) in
    values_kept c.args.digests.now c.look_at_received.new.digests (entries c.in-Slots.base.rest) ms (values c.args.given.now) are c.in_ok-of_base-in-Slots.ensures.ok c.look_at_requests.new.digests c.in_ok-of_requests-in-Slots.ensures.ok
