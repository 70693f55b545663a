use Rattle.std.proofs.Common.{◌≡◌, ◌++◌}
use Rattle.ab_run.specs.Clients.{to_all}
use Rattle.ab_client.specs.Clients.{request_msg}
use Rattle.ab_client.proofs.sending.send_to_first.Given as goal

abbrev pub invariant-loop-r : goal.invariant-loop-r
invariant-loop-r l = l.outs ≡ l.initial.outs ++ to_all l.r (request_msg l.instance l.request)
