use Rattle.std.proofs.Common.{◌≡◌, ◌≤◌, ◌++◌, ◌∷◌, [], List, Some, true, length, map, ap, sym, subst, ◌∙◌, arith, length-append}
use Rattle.ab_form.specs.Readers.{listed}
use Rattle.ab_msg.specs.declared.value.Value.TheVariants.{Request}
use Rattle.ab_content.specs.Parts.{any_request_at}
use Rattle.ab_content.specs.Rows.{entry_at}
use Rattle.ab_content.specs.Views.{entry, request}
use Rattle.ab_wire.specs.Changes.{prepares_at}
use Rattle.ab_wire.specs.Views.{prepares}
use Rattle.ab_order.specs.Inputs.{ProvedSlot}
use Rattle.ab_order.specs.Readings.{slots_of, with_slot}
use Rattle.ab_pbft_work.specs.Slots.{slot_of}
use Rattle.ab_pbft_work.proofs.Gathering.{before}
use Rattle.ab_pbft_work.proofs.SlotLemmas.{slot_follows}
use Rattle.ab_pbft_work.proofs.change.slots_from.Goals as goal

pub entries-preserved : goal.entries-preserved
entries-preserved c =
    let f = c.args.c.now.f in
    let made = c.entries.slots.items in
    let slot = c.in-Some-2.slot in
    let e = entry c.in-Some.entry in
    let v = Request (request c.in-Some-next.m) in
    let by = prepares c.in-Some-next-2.by in
    let entries = listed entry_at c.next.new.self.count c.next.new.self.bytes.now in
    let values = map Request (listed any_request_at c.next-in-entries.new.self.count c.next-in-entries.new.self.bytes.now) in
    let signed = listed prepares_at c.next-in-entries-2.new.self.count c.next-in-entries-2.new.self.bytes.now in
    let old_entries = listed entry_at c.entries.entry-iterator.count c.entries.entry-iterator.bytes.now in
    let old_values = map Request (listed any_request_at c.entries.requests.count c.entries.requests.bytes.now) in
    let whole = with_slot true c.args.first
    (slots_of f 1 (listed entry_at c.args.entries.count c.args.entries.bytes.now) (map Request (listed any_request_at c.args.requests.count c.args.requests.bytes.now)) (listed prepares_at c.args.prepares.count c.args.prepares.bytes.now)) in
    let place : c.len.result ≡ length made = omega (arith, c.len.ensures, c.entries.slots.ok.0) in
    let gives : Some slot ≡ slot_of f (length made) e v by = sym c.in-Some-2.is ∙ c.in_ok-slot.ensures ∙ ap (λ t. slot_of f t e v by) place in
    let next : before (made ++ slot ∷ []) (slots_of f (length (made ++ slot ∷ [])) entries values signed) ≡ whole =
    slot_follows f made e v by entries values signed slot gives
    ∙ ap (λ l. before made (slots_of f (length made) l (v ∷ values) (by ∷ signed))) (sym c.in-Some.ensures.steps.0)
    ∙ ap (λ l. before made (slots_of f (length made) old_entries (map Request l) (by ∷ signed))) (sym c.in-Some-next.ensures.steps.0)
    ∙ ap (λ l. before made (slots_of f (length made) old_entries old_values l)) (sym c.in-Some-next-2.ensures.steps.0)
    ∙ c.entries.invariant.3 in (
      tt,
      tt,
      subst (λ (l : List ProvedSlot). 1 ≤ length l) (sym c.in_ok-push-in-Some-2.ensures.items) (omega (arith, length-append made (slot ∷ []))),
      subst (λ (l : List ProvedSlot). before l (slots_of f (length l) entries values signed) ≡ whole) (sym c.in_ok-push-in-Some-2.ensures.items) next,
    )
