use Rattle.std.proofs.Common.{◌≡◌, take}
use Rattle.std.specs.List.{count_by}
use Rattle.ab_storm.specs.Summaries.{is_of}
use Rattle.ab_storm.proofs.summary.Counted.count.Given as goal

abbrev pub invariant-loop-line : goal.invariant-loop-line
invariant-loop-line l = l.count ≡ count_by (is_of l.self) (take l.line-index l.lines)
