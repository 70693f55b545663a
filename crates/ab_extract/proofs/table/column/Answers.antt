use Rattle.std.proofs.Common.{◌≡◌, ◌-◌, ◌++◌, ◌∷◌, [], ◌∙◌, sym, ap, arith, length, drop, take, map, get_or}
use Rattle.std.proofs.lemmas.List.{get_or_default}
use Rattle.ab_extract.proofs.TableLemmas.{agrees_at, column_first, column_next, column_within, take_drop}
use Rattle.ab_extract.proofs.table.column.Goals as goal

pub loop-j-init : goal.loop-j-init
loop-j-init c =
    c.push.ensures.items ∙ ap (λ xs. xs ++ c.len.result ∷ []) c.new-made.ensures
    ∙ column_first c.args.branches.now c.args.i c.len.result c.index-branches-i.result c.requires.within c.index-branches-i.is
    (c.len.ensures.len ∙ ap (λ b. length b.list) (sym c.index-branches-i.is))

pub bounds-as_slice-i : goal.bounds-as_slice-i
bounds-as_slice-i c =
    let within = column_within c.args.branches.now c.requires.table c.args.i c.loop-j.j c.index-branches-j.result (omega arith) c.loop-j-test.true c.index-branches-j.is in
    omega (arith, within, ap length c.as_slice.ensures.value, ap (λ b. length b.shared.items) c.index-branches-j.is)

pub loop-j-preserved : goal.loop-j-preserved
loop-j-preserved c =
    let bs = c.args.branches.now in
    let i = c.args.i in
    let b = c.index-branches-j.result in
    let items : c.as_slice.result.now ≡ b.shared.items = c.as_slice.ensures.value ∙ ap (λ y. y.shared.items) (sym c.index-branches-j.is) in
    let x = get_or c.as_slice.result.now i 0 in
    let low = column_within bs c.requires.table i c.loop-j.j b (omega arith) c.loop-j-test.true c.index-branches-j.is in
    let is : x ≡ get_or b.shared.items i x = ap (λ xs. get_or xs i 0) items ∙ get_or_default b.shared.items i 0 x low in
    c.push-in-loop-j.ensures.items
    ∙ column_next bs c.requires.table i c.loop-j.j b (omega arith) c.loop-j-test.true c.index-branches-j.is c.loop-j.made.items x is c.loop-j.invariant

pub returns : goal.returns
returns c =
    let bs = c.args.branches.now in
    let all : c.loop-j.j ≡ length bs = omega (arith, c.loop-j-test.false, c.requires.within) in
    c.loop-j.invariant ∙ ap (λ j. map (agrees_at bs c.args.i) (take (j - c.args.i) (drop c.args.i bs))) all ∙ ap (map (agrees_at bs c.args.i)) (take_drop c.args.i bs)
