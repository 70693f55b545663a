use Rattle.std.proofs.Common.{◌<◌, ◌≤◌, length, sym, ◌∙◌, arith}
use Rattle.ab_pbft_shelf.proofs.ListLemmas.{put_over, put_before, put_last}
use Rattle.ab_pbft_shelf.proofs.changes.put_proof.Goals as goal
use Rattle.ab_pbft_shelf.proofs.changes.put_proof.Goals.{else-place-len-via-then-place-len+else-maker_of-maker, else-place-len-via-else-place-len}

pub returns-then-maker_of-maker : goal.returns-then-maker_of-maker
returns-then-maker_of-maker c =
    let xs = c.args.proofs.now.items in
    let i = c.place_of-place.result in
    let lt : i < length xs = omega (arith, c.if-place-len.true, c.len.ensures) in
    let e = put_over c.args.p c.maker_of-maker.result xs c.as_slice.result.now i c.as_slice.ensures.value c.maker_of-maker.ensures c.place_of-place.ensures.below c.index.result.now lt c.index.ensures
    (sym c.maker_of.ensures ∙ c.if-maker_of-maker.true) in
    c.replace_earlier.ensures ∙ sym e

pub returns : goal.returns
returns c =
    let xs = c.args.proofs.now.items in
    let i = c.place_of-place.result in
    let made = c.maker_of-maker.result in
    c.in_ok-insert.ensures.items ∙ sym (elim c.else-place-len.branch [
      | else-place-len-via-then-place-len+else-maker_of-maker w ↦
          let lt : i < length xs = omega (arith, w.if-place-len.true, c.len.ensures) in
          put_before c.args.p made xs c.as_slice.result.now i c.as_slice.ensures.value c.maker_of-maker.ensures c.place_of-place.ensures.below w.index.result.now lt c.place_of-place.ensures.here w.index.ensures
          (λ e. w.if-maker_of-maker.false (w.maker_of.ensures ∙ e))
      | else-place-len-via-else-place-len w ↦
          let full : length xs ≤ i = omega (arith, w.if-place-len.false, c.len.ensures) in
          put_last c.args.p made xs c.as_slice.result.now i c.as_slice.ensures.value c.maker_of-maker.ensures c.place_of-place.ensures.below full c.place_of-place.ensures.within
    ])
