use Rattle.std.proofs.Common.{sym, ◌∙◌}
use Rattle.ab_abs.specs.Messages.{timed}
use Rattle.ab_replica.proofs.EndingLemmas.{ends_with_pen, hears_of}
use Rattle.ab_replica.proofs.replica.Replica.timeout.Goals as goal

pub returns-clause-hears : goal.returns-clause-hears
returns-clause-hears g c k of =
    let ends = c.end.ensures in
    hears_of g.P.Protocol.proto (g.N.Notary.pen c.args.n.now) c.args.self.now k of timed c.time.new.self c.end.new.self c.in_ok-done.done c.end.result
    c.in_ok-done.ensures.does ends.after ends.sends ends.marks ends.spent

pub returns-clause-pen : goal.returns-clause-pen
returns-clause-pen g c is =
    let ends = c.end.ensures in
    ends_with_pen g.P.Protocol.proto (g.N.Notary.pen c.args.n.now) (g.N.Notary.pen c.time.new.n) (g.N.Notary.remains c.time.new.n) c.time.new.self c.end.new.self c.in_ok-done.done.spent
    ends.after (c.in_ok-done.ensures.pen (sym ends.spent ∙ is))
