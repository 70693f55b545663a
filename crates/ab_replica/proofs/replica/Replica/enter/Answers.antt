use Rattle.ab_wire.specs.Views.{message}
use Rattle.ab_replica.proofs.TurnLemmas.{crosses_spent, crosses_taken}
use Rattle.ab_replica.proofs.replica.Replica.enter.Goals as goal

pub returns-then-effects-clause-does : goal.returns-then-effects-clause-does
returns-then-effects-clause-does g c j cert trimmed h leads =
    crosses_spent g.P.Protocol.proto (g.N.Notary.pen c.args.n.now) c.args.self.now j cert trimmed h (message c.args.m) c.args.next c.in_ok-there.there c.arrive.new.self c.in-Ok.effects.outs c.in-Ok.effects.marks.items c.in-Ok.effects.spent leads c.in_ok-there.ensures c.if-effects.true c.in-Ok.ensures.does

pub returns-else-effects-clause-does : goal.returns-else-effects-clause-does
returns-else-effects-clause-does g c j cert trimmed h leads =
    crosses_taken g.P.Protocol.proto (g.N.Notary.pen c.args.n.now) c.args.self.now j cert trimmed h (message c.args.m) c.args.next c.in_ok-there.there c.arrive.new.self c.settle.new.self c.in-Ok.effects.outs c.in-Ok.effects.marks.items c.in-Ok.effects.spent leads c.in_ok-there.ensures c.if-effects.false c.settle.ensures c.in-Ok.ensures.does
