use Rattle.std.proofs.Common.{ap, ◌∙◌}
use Rattle.ab_hist.specs.Trimmed.{trim}
use Rattle.ab_wire.specs.Views.{message}
use Rattle.ab_run.specs.Replicas.{taken}
use Rattle.ab_replica.specs.Sites.{Site, setup_of}
use Rattle.ab_replica.specs.Entries.{with_entry}
use Rattle.ab_replica.proofs.TurnLemmas.{arrives_if}
use Rattle.ab_replica.proofs.replica.Replica.arrive.Goals as goal

pub returns-clause-does : goal.returns-clause-does
returns-clause-does g c =
    let proto = g.P.Protocol.proto in
    let pen = g.N.Notary.pen c.args.n.now in
    let s : Site g.row.P.Denot = c.args.self.now in
    let e = c.in_ok-effects.effects in
    let q = c.self.inside in
    let entry = ap (λ b. with_entry q.instance q.me (trim c.args.start b) e.marks.items e.spent) c.in_ok-base.ensures
    ∙ ap (λ (t : Site g.row.P.Denot). with_entry t.rep.at t.me (trim c.args.start t.rep.entry.base) e.marks.items e.spent) c.self.view_is in
    arrives_if proto pen s c.args.start (taken (setup_of s pen) proto s.me s.rep (message c.args.m)) c.take.new.self e q.instance q.me (trim c.args.start c.in_ok-base.base) c.with_entry.result
    c.in_ok-effects.ensures.does entry c.with_entry.ensures.outs c.with_entry.ensures.marks c.with_entry.ensures.spent
