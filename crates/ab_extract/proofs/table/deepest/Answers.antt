use Rattle.std.proofs.Common.{◌≡◌, ◌<◌, length, map, drop, get_or, [], arith, sym, ap, ◌∙◌}
use Rattle.std.proofs.lemmas.List.{length-map, drop-map}
use Rattle.ab_extract.specs.Walks.{common_of}
use Rattle.ab_extract.specs.Tables.{lists_of, list_at}
use Rattle.ab_extract.proofs.WalkLemmas.{IsReached, best_first, best_next, best_stays, best_is, reached_is, map_after}
use Rattle.ab_extract.proofs.TableLemmas.{list_at_is}
use Rattle.ab_extract.proofs.table.deepest.Goals as goal
use Rattle.ab_extract.proofs.table.deepest.Goals.{then-n-most, else-n-most}

pub loop-i-init : goal.loop-i-init
loop-i-init c =
    let bs = c.args.branches.now in
    let many = length-map bs (λ b. b.list) in
    best_first c.args.q (lists_of bs) c.requires.places.0 (omega (arith, c.requires.places.1, many))

pub loop-i-preserved : goal.loop-i-preserved
loop-i-preserved c =
    let bs = c.args.branches.now in
    let lists = lists_of bs in
    let i = c.loop-i.i in
    let b = c.index-branches-i.result in
    let many = length-map bs (λ b. b.list) in
    let low : i < length bs = omega (arith, c.requires.places.0, c.requires.places.1, c.loop-i-test.true) in
    let this : list_at bs i ≡ b.list = list_at_is bs i b low c.index-branches-i.is in
    let places : c.as_slice.result.now ≡ map (common_of (get_or lists i [])) (drop i lists) =
    c.as_slice.ensures.value ∙ c.column-places.ensures ∙ sym (map_after (λ x. x.list) (common_of (list_at bs i)) (drop i bs))
    ∙ (λ j. map (common_of (list_at bs i)) (sym (drop-map (λ x. x.list) i bs) j))
    in
    let long : length (get_or lists i []) ≡ length b.list = ap length this in
    let len : c.len.result ≡ length b.list = c.len.ensures.len ∙ ap (λ y. length y.list) (sym c.index-branches-i.is) in
    let reached : IsReached c.args.q lists i c.reached-n.result =
    reached_is c.args.q lists i c.reached-n.result c.as_slice.result.now places (omega (arith, long, c.reached-n.ensures.within, len)) c.reached-n.ensures.held
    (λ m le enough. c.reached-n.ensures.most m (omega (arith, le, long, len)) enough)
    in
    elim c.if-n-most.branch [
      | then-n-most w ↦ rw (w.best-is, w.most-is) (best_next c.args.q lists i c.loop-i.best c.loop-i.most c.reached-n.result (omega (arith, low, many)) w.if-n-most.true c.loop-i.invariant reached)
      | else-n-most w ↦ rw (w.best-is, w.most-is) (best_stays c.args.q lists i c.loop-i.best c.loop-i.most c.reached-n.result w.if-n-most.false c.loop-i.invariant reached)
    ]

pub returns : goal.returns
returns c =
    let bs = c.args.branches.now in
    let many = length-map bs (λ b. b.list) in
    best_is c.args.q (lists_of bs) c.loop-i.i c.loop-i.best c.loop-i.most c.requires.places.0
    (omega (arith, many, c.requires.places.1, c.loop-i-test.false)) c.loop-i.invariant
