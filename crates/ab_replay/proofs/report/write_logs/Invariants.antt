use Rattle.std.proofs.Common.{◌≡◌, ◌++◌, drop, flat_map}
use Rattle.ab_text.specs.Reports.{log_text}
use Rattle.ab_replay.specs.Replays.{logs_from}
use Rattle.ab_replay.proofs.report.write_logs.Given as goal

abbrev pub invariant-loop-r : goal.invariant-loop-r
invariant-loop-r g l =
    let logs = logs_from g.P.Protocol.proto l.world.cast.setup in
    l.out.items ++ flat_map log_text (logs l.r (drop l.r l.world.cast.replicas)) ≡ l.initial.out.items ++ flat_map log_text (logs 0 l.world.cast.replicas)
