use Rattle.std.proofs.Common.{◌≡◌, ◌++◌, take, string_bytes}
use Rattle.std.specs.List.{flat_map}
use Rattle.ab_text.specs.Reports.{entry_text, next_entry_text}
use Rattle.ab_text.proofs.report.joined.Given as goal

abbrev pub invariant-loop-entry : goal.invariant-loop-entry
invariant-loop-entry l = string_bytes l.text ≡ entry_text l.first ++ flat_map next_entry_text (take l.entry-index l.rest)
