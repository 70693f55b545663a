use Rattle.std.proofs.Common.{◌≤◌, arith}
use Rattle.ab_pbft_shelf.specs.Posts.{signings}
use Rattle.ab_pbft_shelf.proofs.shelf.Shelf.post_all.Goals as goal

pub returns-clause-spent : goal.returns-clause-spent
returns-clause-spent g c =
    let wanted = c.signings.ensures c.args.by.now in
    let enough : signings c.args.by.now c.args.deeds.now ≤ g.N.Notary.remains c.args.n.now = omega (arith, c.if-left-signings.false, c.left.ensures, wanted) in
    (c.post_each.ensures.spent, λ few. absurd (omega (arith, few, enough)))

pub returns-clause-unused : goal.returns-clause-unused
returns-clause-unused g c =
    let wanted = c.signings.ensures c.args.by.now in
    let enough : signings c.args.by.now c.args.deeds.now ≤ g.N.Notary.remains c.args.n.now = omega (arith, c.if-left-signings.false, c.left.ensures, wanted) in
    λ is. absurd (omega (arith, c.post_each.ensures.spent is, enough))
