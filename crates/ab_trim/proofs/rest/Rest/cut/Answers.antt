use Rattle.std.proofs.Common.{arith, ap, sym, ◌∙◌, subst}
use Rattle.ab_hist.specs.Chunks.{front}
use Rattle.ab_trim.specs.Chained.{AreJoined}
use Rattle.ab_trim.specs.contracts.rest.Rest.{the_view}
use Rattle.ab_trim.proofs.RestLemmas.{front_past, cut_joined}
use Rattle.ab_trim.proofs.rest.Rest.cut.Goals as goal

pub invariant_of-self-else-n-first : goal.invariant_of-self-else-n-first
invariant_of-self-else-n-first c =
    let a = c.self.inside.head in
    subst (AreJoined a) (sym c.cut-else-n-first.ensures)
    (cut_joined a c.self.inside.chain c.self.invariant c.len-first.result c.args.n c.len-first.ensures.len (omega (arith, c.if-n-first.false)))

pub returns-else-n-first : goal.returns-else-n-first
returns-else-n-first c =
    let a = c.self.inside.head in
    let b = c.self.inside.chain in
    let f = c.len-first.result in
    ap (λ k. the_view (record { head = a; chain = k })) c.cut-else-n-first.ensures
    ∙ (λ i. record { start = a.start; requests = sym (front_past a.requests b.requests f c.len-first.ensures.len c.args.n (omega (arith, c.if-n-first.false))) i })
    ∙ ap (front c.args.n) c.self.view_is
