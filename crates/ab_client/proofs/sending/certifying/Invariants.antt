use Rattle.std.proofs.Common.{◌≡◌}
use Rattle.ab_msg.specs.declared.message.Msg.TheVariants as msg
use Rattle.ab_run.specs.Clients.{to_all}
use Rattle.ab_client.proofs.sending.certifying.Given as goal

abbrev pub invariant-loop-r : goal.invariant-loop-r
invariant-loop-r l = l.outs ≡ to_all l.r (msg.Cert l.instance l.zcert)
