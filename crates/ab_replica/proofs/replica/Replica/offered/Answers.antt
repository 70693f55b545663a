use Rattle.std.proofs.Common.{◌≡◌, ℕ, ◌+◌, ◌-◌, [], ◌∷◌, false, length, sym, ap, subst, ◌∙◌, arith}
use Rattle.ab_msg.specs.Pens.{Pen}
use Rattle.ab_wire.specs.Views.{message}
use Rattle.ab_abs.specs.Messages.{took}
use Rattle.ab_run.specs.Replicas.{turn_call}
use Rattle.ab_replica.specs.Sites.{Site}
use Rattle.ab_replica.specs.Doings.{Does}
use Rattle.ab_replica.proofs.TurnLemmas.{calls_offer}
use Rattle.ab_replica.proofs.WithinLemmas.{within_after}
use Rattle.ab_replica.proofs.replica.Replica.offered.Goals as goal

pub returns-in-Ok-clause-does : goal.returns-in-Ok-clause-does
returns-in-Ok-clause-does g c =
    let proto = g.P.Protocol.proto in
    let pen : Pen = g.N.Notary.pen c.args.n.now in
    let call = took (message c.args.m) in
    let q = c.self.inside in
    let v : Site g.row.P.Denot = record { cluster = q.cluster; me = q.me; signatures = q.signatures; rep = record { at = q.instance; value = q.value; entry = q.entry; abort = q.abort; used = q.used; kept = q.kept }; entries = q.entries } in
    let same = c.in_ok-value.ensures in
    let ok = c.in-Ok.ensures.ok in
    let after = subst (λ (p : g.row.P.Denot). c.on.new.self ≡ proto.after pen p call) same ok.0 in
    let sends = subst (λ (p : g.row.P.Denot). c.in-Ok.outs ≡ proto.sends pen p call) same ok.1 in
    let fewer = subst (λ (p : g.row.P.Denot). g.N.Notary.remains c.on.new.n + length (proto.signs p call) ≡ g.N.Notary.remains c.args.n.now) same c.in-Ok.ensures.pen.1 in
    let rest : g.N.Notary.remains c.args.n.now + q.used ≡ q.signatures = subst (λ (s : Site g.row.P.Denot). g.N.Notary.remains c.args.n.now + s.rep.used ≡ s.signatures) (sym c.self.view_is) c.requires.pen.rest in
    let made : c.left-left.result - c.left.result ≡ length (proto.signs q.value call) = omega (arith, c.left-left.ensures, c.left.ensures, fewer) in
    let next : g.row.P.Denot → ℕ → Site g.row.P.Denot = λ p n. record v { rep = record v.rep { value = p; used = q.used + n } } in
    let now : Site g.row.P.Denot = next c.on.new.self (c.left-left.result - c.left.result) in
    subst (λ (s : Site g.row.P.Denot). Does proto pen s (turn_call call ∷ []) now c.in-Ok.outs c.in_ok-marks-in-Ok.marks.items false) c.self.view_is
    (calls_offer proto pen v call c.requires.offer.0 now c.in-Ok.outs c.in_ok-marks-in-Ok.marks.items c.requires.offer.1
    (c.requires.pen.used ∙ sym (ap (λ (s : Site g.row.P.Denot). s.rep.used) c.self.view_is))
    (omega (arith, fewer, rest))
    (ap (λ (p : g.row.P.Denot). next p (c.left-left.result - c.left.result)) after ∙ ap (next (proto.after pen q.value call)) made)
    sends
    c.in_ok-marks-in-Ok.ensures.marks)

pub invariant_of-self : goal.invariant_of-self
invariant_of-self g c =
    let proto = g.P.Protocol.proto in
    let pen : Pen = g.N.Notary.pen c.args.n.now in
    let call = took (message c.args.m) in
    let after = subst (λ (p : g.row.P.Denot). c.on.new.self ≡ proto.after pen p call) c.in_ok-value.ensures c.in-Ok.ensures.ok.0 in
    let within = within_after proto g.P.Protocol.serves g.met.P.Protocol.formed pen c.self.inside.value c.on.new.self call after c.self.invariant.3 in
    (c.self.invariant.0, c.self.invariant.1, c.self.invariant.2, within)
