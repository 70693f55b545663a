use Rattle.std.proofs.Common.{List, ◌∷◌, sym, ap, subst, ◌∙◌}
use Rattle.std.proofs.lemmas.Bool.{not-true, not-false}
use Rattle.ab_msg.specs.Pens.{Pen}
use Rattle.ab_run.specs.Replicas.{RepAction, turn_halt, aborting}
use Rattle.ab_replica.specs.Sites.{Site, setup_of}
use Rattle.ab_replica.specs.Doings.{Does}
use Rattle.ab_replica.proofs.StopLemmas.{halted_states, halting_is, stopped, stops_taken, stops_spent}
use Rattle.ab_replica.proofs.replica.Replica.halting.Goals as goal
use Rattle.ab_replica.proofs.replica.Replica.halting.Goals.{then-not-effects, else-not-effects}

pub returns-clause-does : goal.returns-clause-does
returns-clause-does g c =
    let proto = g.P.Protocol.proto in
    let pen : Pen = g.N.Notary.pen c.args.n.now in
    let s : Site g.row.P.Denot = c.args.self.now in
    let client = c.args.client in
    let e = c.in_ok-effects.effects in
    let q = c.self-2.inside in
    let mid : g.row.P.Denot → Site g.row.P.Denot =
    λ v. record { cluster = q.cluster; me = q.me; signatures = q.signatures; rep = record { at = q.instance; value = v; entry = q.entry; abort = q.abort; used = q.used; kept = q.kept }; entries = q.entries } in
    let same = ap (λ (t : Site g.row.P.Denot). t.rep.value) c.self.view_is in
    let runs = c.stopped.ensures ∙ ap (λ v. (proto.state v).stopped) same in
    let stops = c.may_panic.ensures ∙ ap (λ v. (proto.state (proto.halt v)).stopped) same in
    let does = c.in_ok-effects.ensures.does in
    subst (λ (ts : List RepAction). Does proto pen s ts c.if-not-effects.self e.outs e.marks.items e.spent)
    (halting_is proto pen s client c.stopped.result c.may_panic.result runs c.if-stopped.false stops c.if-not-may_panic.false)
    (elim c.if-not-effects.branch [
      | then-not-effects w ↦
          let under = not-true e.spent w.if-not-effects.true in
          subst (λ b. Does proto pen s (turn_halt ∷ aborting (setup_of s pen) proto client s.rep) c.if-not-effects.self e.outs e.marks.items b) (sym under)
          (stops_taken proto pen s client s.rep.abort c.aborting-2.new.self c.if-not-effects.self e.outs e.marks.items (halted_states proto g.P.Protocol.serves g.met.P.Protocol.formed s)
          (subst (λ b. Does proto pen s (aborting (setup_of s pen) proto client s.rep) c.aborting-2.new.self e.outs e.marks.items b) under does)
          (w.self-is ∙ ap mid w.stop-then-not-effects.ensures ∙ ap (stopped proto pen s client) c.self-2.view_is))
      | else-not-effects w ↦
          let over = not-false e.spent w.if-not-effects.false in
          subst (λ b. Does proto pen s (turn_halt ∷ aborting (setup_of s pen) proto client s.rep) c.if-not-effects.self e.outs e.marks.items b) (sym over)
          (stops_spent proto pen s client s.rep.abort c.aborting-2.new.self c.if-not-effects.self e.outs e.marks.items
          (subst (λ b. Does proto pen s (aborting (setup_of s pen) proto client s.rep) c.aborting-2.new.self e.outs e.marks.items b) over does)
          w.self-is)
    ])
