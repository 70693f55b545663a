use Rattle.std.proofs.Common.{◌≡◌, ◌≤◌, length, map, true}
use Rattle.ab_form.specs.Readers.{listed}
use Rattle.ab_msg.specs.declared.value.Value.TheVariants.{Request}
use Rattle.ab_content.specs.Parts.{any_request_at}
use Rattle.ab_content.specs.Rows.{entry_at}
use Rattle.ab_wire.specs.Changes.{prepares_at}
use Rattle.ab_order.specs.Readings.{slots_of, with_slot}
use Rattle.ab_pbft_work.proofs.Gathering.{before}
use Rattle.ab_pbft_work.proofs.change.slots_from.Given as goal

abbrev pub invariant-entries : goal.invariant-entries
invariant-entries l =
    (goal.iterator-entries).can_next l.entry-iterator × (goal.iterator-entries).is_finite l.entry-iterator × (1 ≤ length l.slots.items)
    × (before l.slots.items
    (slots_of l.c.f (length l.slots.items) (listed entry_at l.entry-iterator.count l.entry-iterator.bytes.now) (map Request (listed any_request_at l.requests.count l.requests.bytes.now)) (listed prepares_at l.prepares.count l.prepares.bytes.now))
    ≡ with_slot true l.fn.first
    (slots_of l.c.f 1 (listed entry_at l.fn.entries.count l.fn.entries.bytes.now) (map Request (listed any_request_at l.fn.requests.count l.fn.requests.bytes.now)) (listed prepares_at l.fn.prepares.count l.fn.prepares.bytes.now)))
