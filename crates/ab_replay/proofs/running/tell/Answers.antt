use Rattle.std.proofs.Common.{◌≡◌, ◌↔◌, IsTrue, subst}
use Rattle.ab_text.specs.declared.line.Premise.{Premise}
use Rattle.ab_text.specs.declared.line.Premise.TheVariants.{Held}
use Rattle.ab_text.specs.Schedules.{script_of}
use Rattle.ab_replay.specs.Replays.{setup_in}
use Rattle.ab_replay.proofs.RunLemmas.{all_replicas, sized_so}
use Rattle.ab_replay.proofs.running.tell.Goals as goal

pub report-requires : goal.report-requires
report-requires g c =
    let head = c.args.schedule.now.head in
    all_replicas g.P.Protocol.proto head.cluster (script_of head c.args.schedule.now.events) c.args.world.now c.requires.runs

pub returns : goal.returns
returns g c =
    let head = c.args.schedule.now.head in
    let events = c.args.schedule.now.events in
    let end = c.args.world.now in
    record {
      cluster = head.cluster;
      sized = sized_so head events;
      end = end;
      runs = c.requires.runs;
      reports = c.in_ok-report.ensures;
      says = subst (λ (p : Premise). IsTrue c.is_held-held.result ↔ (p ≡ Held)) c.premise.ensures c.is_held-held.ensures;
      told = c.runs_are_told.ensures (setup_in head.cluster (script_of head events)) events end c.requires.served c.requires.runs;
    }
