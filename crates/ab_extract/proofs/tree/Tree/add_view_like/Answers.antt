use Rattle.std.proofs.Common.{sym}
use Rattle.ab_content.specs.Views.{history}
use Rattle.ab_extract.proofs.TableLemmas.{shared_is}
use Rattle.ab_extract.proofs.tree.Tree.add_view_like.Goals as goal

pub put-requires-clause-shared : goal.put-requires-clause-shared
put-requires-clause-shared c =
    shared_is (history c.args.h.now) c.in_ok-list.list c.deref.result.now c.self.inside.branches.items c.args.self.now c.shared_with_view-shared.result.items c.shared_with_view-shared.ensures
    c.deref.ensures.value c.in_ok-list.ensures (sym c.self.view_is)
