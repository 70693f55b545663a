use Rattle.std.proofs.Common.{◌≡◌, ◌∙◌, ◌++◌, ◌∷◌, [], ◌<◌, All, Bor, IfSome, List, Option, ap, arith, length, subst, sym}
use Rattle.ab_keys.specs.Keys.{is_party}
use Rattle.ab_msg.specs.declared.message.Out.{Out}
use Rattle.ab_msg.specs.Packets.{IsSendable, Packet}
use Rattle.ab_party.specs.Credentials.{IsLast, sealed_by}
use Rattle.ab_party.proofs.SealLemmas.{is_last, sent_more, unsent_more}
use Rattle.ab_party.proofs.credentials.Credentials.seal_all.Goals as goal
use Rattle.ab_party.proofs.credentials.Credentials.seal_all.Goals.{then-is_party+in_ok-add, else-is_party}

pub loop-out-preserved : goal.loop-out-preserved
loop-out-preserved c =
    let ring = c.args.self.now.ring in
    let outs = c.args.outs.now in
    let i = c.loop-out.out-index in
    let o = c.out-item.result in
    let was = c.loop-out.invariant in
    let lt : i < length outs = omega (arith, c.loop-out-test.true) in
    let party : is_party ring.f ring.clients o.to ≡ c.is_party.result =
    sym (c.is_party.ensures ∙ (λ j. is_party (c.cluster.ensures.f j) (c.cluster.ensures.clients j) o.to) ∙ ap (λ k. is_party k.ring.f k.ring.clients o.to) c.self.view_is) in
    elim c.if-is_party.branch [
      | then-is_party+in_ok-add w ↦
          let items : c.if-is_party.packets.items ≡ c.loop-out.packets.items ++ sealed_by ring o ∷ [] = ap (λ v. v.items) w.packets-is ∙ w.in_ok-add.ensures.sealed in (
            items ∙ ap (λ ms. ms ++ sealed_by ring o ∷ []) was.0 ∙ sym (sent_more ring outs i o lt c.out-item.is (party ∙ w.if-is_party.true)),
            (
              subst (λ v. All IsSendable v.items) (sym w.packets-is) w.in_ok-add.ensures.sendable,
              subst (λ (b : Option (Bor Out)). IfSome b (λ x. IsLast (sealed_by ring x.now) c.if-is_party.packets.items)) (sym w.before-is)
                  (subst (IsLast (sealed_by ring o)) (sym items) (is_last (sealed_by ring o) c.loop-out.packets.items)),
            ),
          )
      | else-is_party w ↦
          let items : c.if-is_party.packets.items ≡ c.loop-out.packets.items = ap (λ v. v.items) w.packets-is in (
            items ∙ was.0 ∙ sym (unsent_more ring outs i o lt c.out-item.is (party ∙ w.if-is_party.false)),
            (
              subst (All IsSendable) (sym items) was.1.0,
              subst (λ (b : Option (Bor Out)). IfSome b (λ x. IsLast (sealed_by ring x.now) c.if-is_party.packets.items)) (sym w.before-is)
                  (subst (λ (ms : List Packet). IfSome c.loop-out.before (λ x. IsLast (sealed_by ring x.now) ms)) (sym items) was.1.1),
            ),
          )
    ]
