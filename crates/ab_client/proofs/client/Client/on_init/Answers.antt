use Rattle.std.proofs.Common.{◌<◌, ◌≤◌, refl, subst}
use Rattle.std.specs.Prelude.{◌⊎◌}
use Rattle.ab_msg.specs.declared.message.Msg.TheVariants as msg
use Rattle.ab_wire.specs.Views.{aborts}
use Rattle.ab_run.specs.Replicas.{cert_instance}
use Rattle.ab_run.specs.Local.{cue_message}
use Rattle.ab_client.specs.Clients.{Seat, moves_on}
use Rattle.ab_client.proofs.MovedLemmas.{moved_nothing, init_late}
use Rattle.ab_client.proofs.client.Client.on_init.Goals as goal

pub returns-in-None-clause-ok : goal.returns-in-None-clause-ok
returns-in-None-clause-ok c =
    let s : Seat = c.args.self.now in
    let cert = aborts c.args.cert in
    let late : (cert_instance cert < s.cli.at) ⊎ (4294967295 ≤ cert_instance cert) =
    subst (λ (t : Seat). (cert_instance cert < t.cli.at) ⊎ (4294967295 ≤ cert_instance cert)) c.self.view_is (c.in-None.ensures.none refl) in
    moved_nothing s (moves_on s (cue_message (msg.Init cert))) c.nothing-in-None.result.0 c.nothing-in-None.result.1.items c.nothing-in-None.ensures.outs c.nothing-in-None.ensures.marks (init_late s cert late)
