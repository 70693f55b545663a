use Rattle.std.proofs.Common.{◌≡◌, Option, None, Some, sym, subst, ◌∙◌}
use Rattle.ab_msg.specs.Pens.{Pen}
use Rattle.ab_wire.specs.Views.{message}
use Rattle.ab_abs.specs.Messages.{took}
use Rattle.ab_run.specs.Replicas.{due, taken}
use Rattle.ab_replica.specs.declared.crossing.Crossing.{Crossing}
use Rattle.ab_replica.specs.Sites.{Site, setup_of}
use Rattle.ab_replica.specs.Doings.{entering}
use Rattle.ab_replica.proofs.TurnLemmas.{does_same}
use Rattle.ab_replica.proofs.CrossingLemmas.{IsDue, due_is, own_crossing, own_enters, own_is}
use Rattle.ab_replica.proofs.replica.Replica.hear.Goals as goal

pub enter-requires-clause-higher : goal.enter-requires-clause-higher
enter-requires-clause-higher g c =
    let proto = g.P.Protocol.proto in
    let s : Site g.row.P.Denot = c.args.self.now in
    let m = message c.args.m in
    let led : Some c.in-Some.next ≡ own_crossing proto m s =
    sym c.in-Some.is ∙ own_is proto m s c.trimmed-trimmed.result c.own_list.result.now c.in_ok-next.next c.self.view_is c.trimmed-trimmed.ensures c.own_list.ensures.list c.in_ok-next.ensures in
    let enters = own_enters proto m s c.own_list.result.now c.in-Some.next c.own_list.ensures.list c.own_list.ensures.trimmed led in
    enters.higher

pub enter-requires-clause-within : goal.enter-requires-clause-within
enter-requires-clause-within g c =
    let proto = g.P.Protocol.proto in
    let s : Site g.row.P.Denot = c.args.self.now in
    let m = message c.args.m in
    let led : Some c.in-Some.next ≡ own_crossing proto m s =
    sym c.in-Some.is ∙ own_is proto m s c.trimmed-trimmed.result c.own_list.result.now c.in_ok-next.next c.self.view_is c.trimmed-trimmed.ensures c.own_list.ensures.list c.in_ok-next.ensures in
    let enters = own_enters proto m s c.own_list.result.now c.in-Some.next c.own_list.ensures.list c.own_list.ensures.trimmed led in
    enters.within

pub enter-requires-clause-begins : goal.enter-requires-clause-begins
enter-requires-clause-begins g c =
    let proto = g.P.Protocol.proto in
    let s : Site g.row.P.Denot = c.args.self.now in
    let m = message c.args.m in
    let led : Some c.in-Some.next ≡ own_crossing proto m s =
    sym c.in-Some.is ∙ own_is proto m s c.trimmed-trimmed.result c.own_list.result.now c.in_ok-next.next c.self.view_is c.trimmed-trimmed.ensures c.own_list.ensures.list c.in_ok-next.ensures in
    let enters = own_enters proto m s c.own_list.result.now c.in-Some.next c.own_list.ensures.list c.own_list.ensures.trimmed led in
    enters.begins

pub enter-requires-clause-shown : goal.enter-requires-clause-shown
enter-requires-clause-shown g c =
    let proto = g.P.Protocol.proto in
    let s : Site g.row.P.Denot = c.args.self.now in
    let m = message c.args.m in
    let led : Some c.in-Some.next ≡ own_crossing proto m s =
    sym c.in-Some.is ∙ own_is proto m s c.trimmed-trimmed.result c.own_list.result.now c.in_ok-next.next c.self.view_is c.trimmed-trimmed.ensures c.own_list.ensures.list c.in_ok-next.ensures in
    let enters = own_enters proto m s c.own_list.result.now c.in-Some.next c.own_list.ensures.list c.own_list.ensures.trimmed led in
    enters.shown

pub returns-in-Some-clause-does : goal.returns-in-Some-clause-does
returns-in-Some-clause-does g c =
    let proto = g.P.Protocol.proto in
    let pen : Pen = g.N.Notary.pen c.args.n.now in
    let s : Site g.row.P.Denot = c.args.self.now in
    let m = message c.args.m in
    let led : Some c.in-Some.next ≡ own_crossing proto m s =
    sym c.in-Some.is ∙ own_is proto m s c.trimmed-trimmed.result c.own_list.result.now c.in_ok-next.next c.self.view_is c.trimmed-trimmed.ensures c.own_list.ensures.list c.in_ok-next.ensures in
    let d = subst (λ (o : Option Crossing). IsDue (setup_of s pen) proto s.me s.rep m o (due (setup_of s pen) proto s.me s.rep (took m))) (sym led) (due_is (setup_of s pen) proto s.me s.rep m) in
    does_same proto pen s (due (setup_of s pen) proto s.me s.rep (took m)) (entering (setup_of s pen) proto s.me s.rep m d.0 d.1 d.2 d.3) c.enter.new.self c.enter.result d.5 (c.enter.ensures.does d.0 d.1 d.2 d.3 d.4)

pub returns-in-None-clause-does : goal.returns-in-None-clause-does
returns-in-None-clause-does g c =
    let proto = g.P.Protocol.proto in
    let pen : Pen = g.N.Notary.pen c.args.n.now in
    let s : Site g.row.P.Denot = c.args.self.now in
    let m = message c.args.m in
    let led : None ≡ own_crossing proto m s =
    sym c.in-None.is ∙ own_is proto m s c.trimmed-trimmed.result c.own_list.result.now c.in_ok-next.next c.self.view_is c.trimmed-trimmed.ensures c.own_list.ensures.list c.in_ok-next.ensures in
    let d = subst (λ (o : Option Crossing). IsDue (setup_of s pen) proto s.me s.rep m o (due (setup_of s pen) proto s.me s.rep (took m))) (sym led) (due_is (setup_of s pen) proto s.me s.rep m) in
    does_same proto pen s (due (setup_of s pen) proto s.me s.rep (took m)) (taken (setup_of s pen) proto s.me s.rep m) c.take.new.self c.take.result d c.take.ensures.does
