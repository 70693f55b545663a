use Rattle.std.proofs.Common.{◌+◌, ◌≤◌, length, [], Result}
use Rattle.ab_text.specs.declared.fault.TextFault.{TextFault}
use Rattle.ab_text.specs.Lines.{lines_of}
use Rattle.ab_text.specs.Heads.{Script}
use Rattle.ab_text.specs.Schedules.{ReadsEvents, script_of}
use Rattle.ab_text.proofs.reading.events_after.Given as goal

-- what the lines that are left give, all of them give
abbrev pub invariant-loop-line : goal.invariant-loop-line
invariant-loop-line l = record {
  so_far : (r : Result Script TextFault) → ReadsEvents l.n (script_of l.head l.events) (lines_of l.rest) r → ReadsEvents l.first (script_of l.head []) (lines_of l.text) r;
  fits : l.n + length l.rest ≤ l.first + length l.text;
}

abbrev pub decreases-loop-line : goal.decreases-loop-line
decreases-loop-line l = length l.rest
