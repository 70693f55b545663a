use Rattle.std.proofs.Common.{◌≡◌, suc, ◌+◌, ◌++◌, ◌∷◌, [], drop, drop-cons, arith, sym, ap, ◌∙◌}
use Rattle.std.proofs.lemmas.List.{map_push}
use Rattle.ab_trim.specs.Points.{lists_in}
use Rattle.ab_stable.specs.Offers.{all_stated}
use Rattle.ab_stable.specs.Owned.{seen}
use Rattle.ab_stable.proofs.ReadingLemmas.{gone_over, at_next, one_more}
use Rattle.ab_stable.proofs.owned.lists_in.Goals as goal

pub aborts-preserved : goal.aborts-preserved
aborts-preserved c =
    let q = c.args.c.now in
    let j = c.args.j in
    let all = c.args.aborts.now in
    let n = c.aborts.abort-index in
    let lists = lists_in c.aborts.lists.items in
    let v = seen c.in-Some.stated in
    let more = drop (n + 1) all in
    let added : lists_in c.push.new.self.items ≡ lists ++ v.list ∷ [] =
    ap lists_in c.in_ok-push.ensures.items ∙ map_push (λ l. l.list) c.aborts.lists.items c.in_ok-list.list ∙ ap (λ l. lists ++ l.list ∷ []) c.in_ok-list.ensures
    in
    let next : drop n all ≡ c.abort-item.result ∷ more =
    drop-cons all n c.abort-item.result c.aborts-test.true ∙ ap (λ s. s ∷ drop (suc n) all) (sym c.abort-item.is) ∙ ap (λ k. c.abort-item.result ∷ drop k all) (let e : suc n ≡ n + 1 = omega arith in e)
    in
    ap (λ xs. gone_over (λ w. w.list) xs (all_stated q j more)) added
    ∙ one_more (λ w. w.list) lists v (all_stated q j more)
    ∙ at_next (λ w. w.list) q j lists _ (drop n all) c.abort-item.result more _ next c.in-Some.ensures.seen c.aborts.invariant
