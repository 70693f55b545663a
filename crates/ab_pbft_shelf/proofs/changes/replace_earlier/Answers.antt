use Rattle.std.proofs.Common.{◌≤◌, arith}
use Rattle.ab_pbft_shelf.specs.Shelves.{view_of}
use Rattle.ab_pbft_shelf.proofs.ListLemmas.{later_is}
use Rattle.ab_pbft_shelf.proofs.changes.replace_earlier.Goals as goal

pub returns-else-view_of : goal.returns-else-view_of
returns-else-view_of c =
    let late : view_of c.args.p ≤ view_of c.index.result.now = omega (arith, c.if-view_of.false, c.view_of.ensures, c.view_of-2.ensures) in
    later_is c.args.p c.index.result.now c.args.proofs.now.items c.args.place c.requires c.index.ensures late
