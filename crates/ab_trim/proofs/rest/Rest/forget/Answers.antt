use Rattle.std.proofs.Common.{arith, ap, sym, ◌∙◌, subst}
use Rattle.ab_trim.specs.Chained.{AreJoined, behind}
use Rattle.ab_trim.proofs.RestLemmas.{digest_past, drop_past, forgot_joined, took_joined}
use Rattle.ab_trim.proofs.rest.Rest.forget.Goals as goal

pub invariant_of-self : goal.invariant_of-self
invariant_of-self c =
    let b = c.self.inside.chain in
    subst (λ h. AreJoined h b) (sym c.forget.ensures)
    (forgot_joined c.self.inside.head b c.self.invariant c.args.n (omega (arith, c.if-n-first.true, c.len-first.ensures.len)))

pub invariant_of-self-else-n-first : goal.invariant_of-self-else-n-first
invariant_of-self-else-n-first c =
    took_joined c.self.inside.head c.self.inside.chain c.self.invariant c.take_front.result c.take_front.new.self c.len-first.result c.args.n c.len-first.ensures.len
    (omega (arith, c.if-n-first.false)) c.take_front.ensures.requests c.take_front.ensures.joined

pub returns-else-n-first : goal.returns-else-n-first
returns-else-n-first c =
    let a = c.self.inside.head in
    let b = c.self.inside.chain in
    let f = c.len-first.result in
    (λ i. record {
      start = (c.take_front.ensures.start ∙ digest_past a.requests b.requests f c.len-first.ensures.len a.start b.start c.args.n c.self.invariant.joined (omega (arith, c.if-n-first.false))) i;
      requests = (c.take_front.ensures.requests ∙ sym (drop_past a.requests b.requests f c.len-first.ensures.len c.args.n (omega (arith, c.if-n-first.false)))) i;
    })
    ∙ ap (behind c.args.n) c.self.view_is
