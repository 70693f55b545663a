use Rattle.std.proofs.Common.{arith, ap, ◌∙◌}
use Rattle.ab_trim.specs.Points.{fewer}
use Rattle.ab_trim.proofs.FoundLemmas.{least_more}
use Rattle.ab_trim.proofs.agreeing.least_holder.Goals as goal

pub loop-k-preserved : goal.loop-k-preserved
loop-k-preserved c =
    let x = c.index-lists-lists.result in
    c.fewer-best.ensures ∙ ap (fewer c.args.n c.args.digest.now x.list) c.loop-k.invariant
    ∙ least_more c.args.n c.args.digest.now c.args.lists.now c.loop-k.k _ x c.loop-k-test.true (omega arith) c.index-lists-lists.is
