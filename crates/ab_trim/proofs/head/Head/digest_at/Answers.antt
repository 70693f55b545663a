use Rattle.std.proofs.Common.{take, ap, sym, ◌∙◌}
use Rattle.ab_hist.specs.Chunks.{digest_from}
use Rattle.ab_trim.specs.Chained.{shown}
use Rattle.ab_trim.proofs.HeadLemmas.{digest_behind}
use Rattle.ab_trim.proofs.head.Head.digest_at.Goals as goal

pub returns-in-Some : goal.returns-in-Some
returns-in-Some c =
    let d = c.self.inside.digest in
    let part = c.in-Some.part in
    c.digest_at.ensures ∙ digest_behind d part c.self.inside.hidden c.args.n (c.self.invariant part c.in-Some.is).digest
    ∙ ap (λ o. digest_from d (take c.args.n (shown o c.self.inside.hidden))) (sym c.in-Some.is)
    ∙ ap (λ k. digest_from k.start (take c.args.n k.requests)) c.self.view_is
