use Rattle.std.proofs.Common.{◌≡◌, ◌++◌, take, flat_map}
use Rattle.ab_text.specs.Reports.{line_text}
use Rattle.ab_replay.proofs.report.write_lines.Given as goal

abbrev pub invariant-loop-line : goal.invariant-loop-line
invariant-loop-line l = l.out.items ≡ l.initial.out.items ++ flat_map line_text (take l.line-index l.lines)
