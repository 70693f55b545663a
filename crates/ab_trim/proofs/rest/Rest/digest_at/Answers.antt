use Rattle.std.proofs.Common.{take, arith, ap, ◌∙◌}
use Rattle.ab_hist.specs.Chunks.{digest_from}
use Rattle.ab_trim.proofs.RestLemmas.{digest_past}
use Rattle.ab_trim.proofs.rest.Rest.digest_at.Goals as goal

pub returns-else-n-first : goal.returns-else-n-first
returns-else-n-first c =
    let a = c.self.inside.head in
    let b = c.self.inside.chain in
    c.digest_at-else-n-first.ensures
    ∙ digest_past a.requests b.requests c.len-first.result c.len-first.ensures.len a.start b.start c.args.n c.self.invariant.joined (omega (arith, c.if-n-first.false))
    ∙ ap (λ k. digest_from k.start (take c.args.n k.requests)) c.self.view_is
