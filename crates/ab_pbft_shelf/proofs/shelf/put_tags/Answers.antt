use Rattle.std.proofs.Common.{◌<◌, ◌≤◌, length, sym, ◌∙◌, arith}
use Rattle.ab_pbft_shelf.proofs.ListLemmas.{tags_over, tags_after}
use Rattle.ab_pbft_shelf.proofs.shelf.put_tags.Goals as goal

pub returns-then-place-len : goal.returns-then-place-len
returns-then-place-len c =
    let xs = c.args.tagged.now.items in
    let lt : c.place_for-place.result < length xs = omega (arith, c.if-place-len.true, c.len.ensures) in
    sym (tags_over c.args.t xs c.as_slice.result.now c.place_for-place.result c.as_slice.ensures.value c.place_for-place.ensures.below lt c.place_for-place.ensures.here)

pub returns : goal.returns
returns c =
    let xs = c.args.tagged.now.items in
    let full : length xs ≤ c.place_for-place.result = omega (arith, c.if-place-len.false, c.len.ensures) in
    c.in_ok-push.ensures.items ∙ sym (tags_after c.args.t xs c.as_slice.result.now c.place_for-place.result c.as_slice.ensures.value c.place_for-place.ensures.below full)
