use Rattle.std.proofs.Common.{◌≡◌, ◌++◌, map, take}
use Rattle.ab_text.specs.Schedules.{faulty_line}
use Rattle.ab_text.specs.Texts.{text_of}
use Rattle.ab_text.proofs.head_writing.add_faulty.Given as goal

abbrev pub invariant-loop-party : goal.invariant-loop-party
invariant-loop-party l = l.out.items ≡ l.fn.out.items ++ text_of (map faulty_line (take l.party-index l.faulty))
