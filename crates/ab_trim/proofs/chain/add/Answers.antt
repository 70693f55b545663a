use Rattle.std.proofs.Common.{◌≡◌, ◌-◌, ◌+◌, length, slice_get, get_or, Some, [], arith, ap, sym, ◌∙◌, subst}
use Rattle.std.proofs.lemmas.Option.{slice_get-get_or}
use Rattle.std.proofs.lemmas.Result.{on_ok_weaker}
use Rattle.ab_hist.specs.Chunks.{begun, grown, entries_of}
use Rattle.ab_trim.specs.Chained.{AreFilled, StartFrom}
use Rattle.ab_trim.proofs.ChunkLemmas.{all-whole, filled-end, starts-end, grown-filled, grown-starts, grown-entries, next_in}
use Rattle.ab_trim.proofs.chain.add.Goals as goal

pub grow_last-requires-clause-next : goal.grow_last-requires-clause-next
grow_last-requires-clause-next c k at =
    let items = c.args.parts.now.items in
    let room = c.are_full.ensures.room c.if-are_full.false in
    (room.1 k at, next_in items (length items - 1) k at c.args.m c.requires.next)

pub returns-then-are_full-clause-filled : goal.returns-then-are_full-clause-filled
returns-then-are_full-clause-filled c =
    let items = c.args.parts.now.items in
    on_ok_weaker c.begin_chunk.result
    (λ is. subst AreFilled (sym is) (filled-end items (grown (begun c.args.digest) c.args.m) (all-whole items c.requires.filled (c.are_full.ensures.full c.if-are_full.true)) (omega arith)))
    c.begin_chunk.ensures.ok

pub returns-then-are_full-clause-starts : goal.returns-then-are_full-clause-starts
returns-then-are_full-clause-starts c =
    let items = c.args.parts.now.items in
    on_ok_weaker c.begin_chunk.result
    (λ is d starts digest. subst (StartFrom d) (sym is) (starts-end d items (grown (begun c.args.digest) c.args.m) starts digest))
    c.begin_chunk.ensures.ok

pub returns-else-are_full-clause-filled : goal.returns-else-are_full-clause-filled
returns-else-are_full-clause-filled c =
    let items = c.args.parts.now.items in
    let room = c.are_full.ensures.room c.if-are_full.false in
    let last : length items ≡ length items - 1 + 1 = omega (arith, room.0) in
    let k = get_or items (length items - 1) (begun []) in
    let at : slice_get items (length items - 1) ≡ Some k = slice_get-get_or items (length items - 1) (begun []) (omega (arith, room.0)) in
    on_ok_weaker c.grow_last.result (λ is. subst AreFilled (sym (is k at)) (grown-filled items c.requires.filled (length items - 1) k at last c.args.m (room.1 k at))) c.grow_last.ensures.ok

pub returns-else-are_full-clause-starts : goal.returns-else-are_full-clause-starts
returns-else-are_full-clause-starts c =
    let items = c.args.parts.now.items in
    let room = c.are_full.ensures.room c.if-are_full.false in
    let last : length items ≡ length items - 1 + 1 = omega (arith, room.0) in
    let k = get_or items (length items - 1) (begun []) in
    let at : slice_get items (length items - 1) ≡ Some k = slice_get-get_or items (length items - 1) (begun []) (omega (arith, room.0)) in
    on_ok_weaker c.grow_last.result (λ is d starts _. subst (StartFrom d) (sym (is k at)) (grown-starts items c.requires.filled (length items - 1) k at last c.args.m d starts)) c.grow_last.ensures.ok

pub returns-else-are_full-clause-ok : goal.returns-else-are_full-clause-ok
returns-else-are_full-clause-ok c =
    let items = c.args.parts.now.items in
    let room = c.are_full.ensures.room c.if-are_full.false in
    let last : length items ≡ length items - 1 + 1 = omega (arith, room.0) in
    let k = get_or items (length items - 1) (begun []) in
    let at : slice_get items (length items - 1) ≡ Some k = slice_get-get_or items (length items - 1) (begun []) (omega (arith, room.0)) in
    on_ok_weaker c.grow_last.result (λ is. ap entries_of (is k at) ∙ grown-entries items c.requires.filled (length items - 1) k at last c.args.m) c.grow_last.ensures.ok
