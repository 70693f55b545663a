use Rattle.std.proofs.Common.{sym, ap}
use Rattle.ab_run.specs.Local.{cli_after, cli_marks, cli_sends}
use Rattle.ab_client.specs.Clients.{alone}
use Rattle.ab_client.proofs.laws.clients_act_by_their_cluster.Goals as goal

pub returns-clause-after : goal.returns-clause-after
returns-clause-after c k s cue is = ap (λ x. cli_after (alone x) s.me s.cli cue) (sym is)

pub returns-clause-sends : goal.returns-clause-sends
returns-clause-sends c k s cue is = ap (λ x. cli_sends (alone x) s.me s.cli cue) (sym is)

pub returns-clause-marks : goal.returns-clause-marks
returns-clause-marks c k s cue is = ap (λ x. cli_marks (alone x) s.me s.cli cue) (sym is)
