use Rattle.std.proofs.Common.{◌<◌, arith, length}
use Rattle.std.proofs.lemmas.Result.{err_from_is_err_and}
use Rattle.ab_pbft_shelf.proofs.PostLemmas.{one_more, signs_more, signs_most}
use Rattle.ab_pbft_shelf.proofs.shelf.Shelf.post_each.Goals as goal

pub returns-in_err-post-clause-spent : goal.returns-in_err-post-clause-spent
returns-in_err-post-clause-spent g c =
    let lt : c.deeds.deed-index < length c.args.deeds.now = omega arith in
    let most = signs_most c.args.by.now c.args.deeds.now c.deeds.deed-index c.deed-item.result lt c.deed-item.is in
    let few = c.in_err-post.ensures.spent in
    let left = c.deeds.invariant.left in
    let p = err_from_is_err_and c.from_residual.result c.from_residual.ensures.1 in
    rw (p.1, p.2) (λ is. omega (arith, few is, most, left))

pub deeds-preserved : goal.deeds-preserved
deeds-preserved g c =
    let lt : c.deeds.deed-index < length c.args.deeds.now = omega arith in
    let more = signs_more c.args.by.now c.args.deeds.now c.deeds.deed-index c.deed-item.result lt c.deed-item.is in
    record {
      posted = one_more c.args.by.now c.args.deeds.now c.deeds.deed-index c.deed-item.result lt c.deed-item.is _ _ _ c.deeds.invariant.posted c.in_ok-post.ensures.ok;
      left = omega (arith, more, c.deeds.invariant.left, c.in_ok-post.ensures.left);
    }
