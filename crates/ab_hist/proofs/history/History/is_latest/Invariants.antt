use Rattle.std.proofs.Common.{◌≡◌, take, true}
use Rattle.std.specs.List.{list_all}
use Rattle.ab_hist.specs.Known.{is_no_later}
use Rattle.ab_hist.specs.Chunks.{entries_of}
use Rattle.ab_hist.proofs.history.History.is_latest.Given as goal

abbrev pub invariant-chunks : goal.invariant-chunks
invariant-chunks l = list_all (is_no_later l.m) (entries_of (take l.k l.self-inside.parts.items)) ≡ true
