use Rattle.std.proofs.Common.{◌+◌, ◌∙◌, drop, refl, ap}
use Rattle.std.specs.Prelude.{max, slice_get}
use Rattle.ab_storm.specs.Summaries.{highest}
use Rattle.ab_storm.proofs.SummaryLemmas.{larger, top_next}
use Rattle.ab_storm.proofs.summary.top.Goals as goal

pub loop-r-preserved : goal.loop-r-preserved
loop-r-preserved g c =
    let xs = c.args.world.now.cast.replicas in
    let r = c.loop-r.r in
    let over = c.max-top.ensures ∙ larger c.loop-r.top c.instance_of.result in
    ap (λ t. max t (highest (drop (r + 1) xs))) over ∙ top_next xs r c.loop-r.top c.instance_of.result (slice_get xs r) refl c.instance_of.ensures ∙ c.loop-r.invariant
