use Rattle.std.proofs.Common.{◌≡◌, ◌+◌, ◌-◌, ◌<◌, List, length, fold, max, map, arith, ap, sym, ◌∙◌, subst}
use Rattle.ab_extract.specs.declared.table.Branch.{Branch}
use Rattle.ab_extract.specs.Tables.{IsTable, lists_of}
use Rattle.ab_extract.specs.Trees.{IsTree, shared_of}
use Rattle.ab_extract.specs.Walks.{common_of}
use Rattle.ab_extract.proofs.TreeLemmas.{shared_within}
use Rattle.ab_extract.proofs.TableLemmas.{greatest_is, tree_push}
use Rattle.ab_extract.proofs.tree.Tree.put.Goals as goal

pub overflow_sub-more : goal.overflow_sub-more
overflow_sub-more c =
    let list = c.args.branch.list in
    let lists = c.args.self.now in
    let most : c.greatest.result ≡ shared_of list lists = c.greatest.ensures ∙ ap (fold max 0) c.as_slice.ensures.value ∙ greatest_is list lists c.args.branch.shared.items c.requires.shared in
    omega (arith, most, c.len.ensures.len, shared_within list lists)

pub invariant_of-self-2 : goal.invariant_of-self-2
invariant_of-self-2 c =
    let bs = c.self.inside.branches.items in
    let b = c.args.branch in
    let n = c.self.inside.nodes in
    let more = c.len.result - c.greatest.result in
    let shared : b.shared.items ≡ map (common_of b.list) (lists_of bs) = c.requires.shared ∙ ap (map (common_of b.list)) (sym c.self.view_is) in
    let most : c.greatest.result ≡ shared_of b.list (lists_of bs) = c.greatest.ensures ∙ ap (fold max 0) c.as_slice.ensures.value ∙ greatest_is b.list (lists_of bs) b.shared.items shared in
    let count : more ≡ length b.list - shared_of b.list (lists_of bs) = omega (arith, most, c.len.ensures.len) in
    let room : length (lists_of bs) < 7 = omega (arith, c.requires.room, ap length c.self.view_is) in
    subst (λ (new : List Branch). IsTree (lists_of new) (n + more) × IsTable new) (sym c.in_ok-push.ensures.items)
    (tree_push bs b n more room (omega (arith, c.len.ensures.len, c.len.ensures.few)) count shared c.self.invariant.0 c.self.invariant.1)
