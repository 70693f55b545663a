use Rattle.std.proofs.Common.{◌≡◌, ◌+◌, take}
use Rattle.ab_pbft_shelf.specs.Posts.{posts_all, signings}
use Rattle.ab_pbft_shelf.proofs.shelf.Shelf.post_each.Given as goal

abbrev pub invariant-deeds : goal.invariant-deeds
invariant-deeds g l = record {
  posted : posts_all l.by (take l.deed-index l.deeds) (record { pen = g.N.Notary.pen l.initial.n; shelf = l.initial.self; sent = l.initial.outs.items }) ≡ record { pen = g.N.Notary.pen l.n; shelf = l.self; sent = l.outs.items };
  left : g.N.Notary.remains l.n + signings l.by (take l.deed-index l.deeds) ≡ g.N.Notary.remains l.initial.n;
}
