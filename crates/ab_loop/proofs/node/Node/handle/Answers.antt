use Rattle.std.proofs.Common.{List, Bool, inl, inr, refl, ap, ◌∙◌, subst}
use Rattle.ab_io.specs.Datagrams.{Datagram}
use Rattle.ab_loop.specs.Cores.{event_of}
use Rattle.ab_loop.specs.Edges.{LeavesFront, Sends}
use Rattle.ab_loop.specs.Nodes.{datagrams_in, event_step, kept_of, parcels_of, trace_text}
use Rattle.ab_loop.proofs.CrashLemmas.{crash_rests}
use Rattle.ab_loop.proofs.FollowsLemmas.{event_counts, event_crash, event_does, event_unkept, line_alone, line_failed, line_part, on_err, on_ok, unkept_counts, want_memory}
use Rattle.ab_loop.proofs.node.Node.handle.Goals as goal

pub returns-in-Err-clause-follows : goal.returns-in-Err-clause-follows
unfolding event_step
returns-in-Err-clause-follows g c = record {
  node = tt;
  did = line_part _ _ _ _ _ _ c.in-Err.ensures.says;
  counted = line_failed _ _ _ _ c.in-Err.fault c.in-Err.ensures.counted.0 c.in-Err.ensures.counted.1;
  any_moment = (crash_rests g.D.Disk.model g.J.Keeper.list_of (g.J.Keeper.kept c.args.keeper.now c.args.disk.now) c.args.disk.now _ (λ x. g.met.D.Disk.only_now c.args.disk.now x)
      (λ x may. g.met.J.Keeper.kept_is_left c.args.keeper.now c.args.disk.now x c.requires.ready may));
}

pub returns-clause-follows : goal.returns-clause-follows
unfolding event_step
returns-clause-follows g c = record {
  node = tt;
  did = line_alone _ _ _ _ _ _ c.in_default.ensures.says;
  counted = want_memory _ _ _ _ c.in_default.ensures.counted;
  any_moment = (crash_rests g.D.Disk.model g.J.Keeper.list_of (g.J.Keeper.kept c.args.keeper.now c.args.disk.now) c.args.disk.now _ (λ x. g.met.D.Disk.only_now c.args.disk.now x)
      (λ x may. g.met.J.Keeper.kept_is_left c.args.keeper.now c.args.disk.now x c.requires.ready may));
}

pub returns-in-Ok-keep-clause-follows : goal.returns-in-Ok-keep-clause-follows
unfolding event_step
returns-in-Ok-keep-clause-follows g c =
    let same = ap (λ (is : Bool). kept_of is (event_of c.args.input.now)) c.in-Ok.ensures.opened in
    let text = trace_text c.args.setting.now (event_of c.args.input.now) in
    let ds = datagrams_in (parcels_of c.args.setting.now c.args.self.now.number (g.K.PartyCore.rules.step c.args.self.now.core (event_of c.args.input.now)).sends) in
    record {
      node = on_ok c.send_all.result c.in-Ok.ensures.node;
      did = event_does _ _ _ _ _ _ _ _ _ _ c.send_all.result same c.in_default.ensures.says c.in-Ok-keep.ensures.retains.keeps
          (subst (λ (ps : List (List Datagram)). Sends (g.L.Link.state c.args.link.now).sent (g.L.Link.state c.send_all.new.link).sent (datagrams_in ps) c.send_all.result)
          (c.as_slice.ensures.value ∙ c.in-Ok.ensures.sends) c.send_all.ensures.sends);
      counted = event_counts _ _ _ _ _ _ c.send_all.result c.in_default.ensures.counted c.in-Ok-keep.ensures.retains.counted c.send_all.ensures.faults c.send_all.ensures.losses;
      any_moment = event_crash (LeavesFront g.D.Disk.model g.J.Keeper.list_of (g.J.Keeper.kept c.args.keeper.now c.args.disk.now) c.args.disk.now c.keep.new.disk) text _ _ ds same c.keep.ensures.any_moment;
    }

pub returns-in-Ok-clause-follows : goal.returns-in-Ok-clause-follows
unfolding event_step
returns-in-Ok-clause-follows g c =
    let same = ap (λ (is : Bool). kept_of is (event_of c.args.input.now)) c.in-Ok.ensures.opened in
    let text = trace_text c.args.setting.now (event_of c.args.input.now) in
    let ds = datagrams_in (parcels_of c.args.setting.now c.args.self.now.number (g.K.PartyCore.rules.step c.args.self.now.core (event_of c.args.input.now)).sends) in
    record {
      node = tt;
      did = event_unkept _ _ _ _ _ _ _ _ _ same c.in_default.ensures.says c.in-Err-keep.ensures.retains.keeps;
      counted = unkept_counts _ _ _ _ _ c.in-Err-keep.fault c.in_default.ensures.counted c.in-Err-keep.ensures.retains.counted.0 c.in-Err-keep.ensures.retains.counted.1;
      any_moment = event_crash (LeavesFront g.D.Disk.model g.J.Keeper.list_of (g.J.Keeper.kept c.args.keeper.now c.args.disk.now) c.args.disk.now c.keep.new.disk) text _ _ ds same c.keep.ensures.any_moment;
    }

pub returns-in-Ok-keep-clause-cut : goal.returns-in-Ok-keep-clause-cut
returns-in-Ok-keep-clause-cut g c = on_err c.send_all.result (inr c.in-Ok.ensures.node)

pub returns-in-Err-clause-cut : goal.returns-in-Err-clause-cut
returns-in-Err-clause-cut g c = inl refl

pub returns-in-Ok-clause-cut : goal.returns-in-Ok-clause-cut
returns-in-Ok-clause-cut g c = inl refl

pub returns-clause-cut : goal.returns-clause-cut
returns-clause-cut g c = inl refl
