use Rattle.std.proofs.Common.{◌≡◌, ◌++◌, map, take}
use Rattle.ab_text.specs.EventLines.{event_line}
use Rattle.ab_text.specs.Texts.{text_of}
use Rattle.ab_text.proofs.event_writing.add_events.Given as goal

abbrev pub invariant-loop-event : goal.invariant-loop-event
invariant-loop-event l = l.out.items ≡ l.fn.out.items ++ text_of (map event_line (take l.event-index l.events))
