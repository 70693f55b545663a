use Rattle.std.proofs.Common.{◌≡◌, ◌+◌, ◌/◌, ◌%◌, ◌<◌, ◌++◌, ◌∷◌, [], length, take, slice_get, Some, arith, ap, sym, ◌∙◌, refl, subst}
use Rattle.std.proofs.lemmas.List.{take_all}
use Rattle.std.proofs.lemmas.Grind.{take-set_at}
use Rattle.std.proofs.lemmas.Option.{slice_get_read}
use Rattle.ab_hist.specs.Chunks.{front, entries_of}
use Rattle.ab_trim.specs.Chained.{AreFilled, StartFrom}
use Rattle.ab_trim.proofs.ChunkLemmas.{in_chunks, below_64, room_in_chunk, front_to, front_whole, whole-filled, take-whole, starts-take, cut-filled, cut-starts, entries-end, no_more}
use Rattle.ab_trim.proofs.chain.keep.Goals as goal

pub cut-requires : goal.cut-requires
cut-requires c =
    let items = c.args.parts.now.items in
    let lt : c.args.n / 64 < length items = omega (arith, c.if-whole-len.true, c.len.ensures, c.args.parts.now.ok.0) in
    let at : slice_get items (c.args.n / 64) ≡ Some c.index_mut.result.now = slice_get_read items (length items) (c.args.n / 64) c.index_mut.result.now refl lt c.index_mut.ensures.value in
    room_in_chunk items c.requires.filled c.args.n (c.args.n / 64) (c.args.n % 64) (in_chunks c.args.n) c.index_mut.result.now at (omega (arith, below_64 c.args.n)) c.requires.within

pub returns-then-rest-eq0-clause-filled : goal.returns-then-rest-eq0-clause-filled
returns-then-rest-eq0-clause-filled c =
    let items = c.args.parts.now.items in
    let lt : c.args.n / 64 < length items = omega (arith, c.if-whole-len.true, c.len.ensures, c.args.parts.now.ok.0) in
    subst AreFilled (sym c.truncate.ensures.items) (whole-filled (take (c.args.n / 64) items) (take-whole items (c.args.n / 64) c.requires.filled lt))

pub returns-then-rest-eq0-clause-starts : goal.returns-then-rest-eq0-clause-starts
returns-then-rest-eq0-clause-starts c d starts =
    let items = c.args.parts.now.items in
    subst (StartFrom d) (sym c.truncate.ensures.items) (starts-take d items (c.args.n / 64) starts)

pub returns-then-rest-eq0-clause-front : goal.returns-then-rest-eq0-clause-front
returns-then-rest-eq0-clause-front c =
    let items = c.args.parts.now.items in
    let lt : c.args.n / 64 < length items = omega (arith, c.if-whole-len.true, c.len.ensures, c.args.parts.now.ok.0) in
    ap entries_of c.truncate.ensures.items ∙ front_whole items c.requires.filled (c.args.n / 64) c.args.n (omega (arith, in_chunks c.args.n, c.if-rest-eq0.true)) lt

pub returns-else-rest-eq0-clause-filled : goal.returns-else-rest-eq0-clause-filled
returns-else-rest-eq0-clause-filled c =
    let items = c.args.parts.now.items in
    let q = c.args.n / 64 in
    let lt : q < length items = omega (arith, c.if-whole-len.true, c.len.ensures, c.args.parts.now.ok.0) in
    let at : slice_get items q ≡ Some c.index_mut.result.now = slice_get_read items (length items) q c.index_mut.result.now refl lt c.index_mut.ensures.value in
    let is = c.truncate-else-rest-eq0.ensures.items ∙ take-set_at items q (q + 1) c.cut.new.self refl lt ∙ ap (λ k. take q items ++ k ∷ []) c.cut.ensures in
    subst AreFilled (sym is) (cut-filled items c.requires.filled q c.index_mut.result.now at (c.args.n % 64))

pub returns-else-rest-eq0-clause-starts : goal.returns-else-rest-eq0-clause-starts
returns-else-rest-eq0-clause-starts c d starts =
    let items = c.args.parts.now.items in
    let q = c.args.n / 64 in
    let lt : q < length items = omega (arith, c.if-whole-len.true, c.len.ensures, c.args.parts.now.ok.0) in
    let at : slice_get items q ≡ Some c.index_mut.result.now = slice_get_read items (length items) q c.index_mut.result.now refl lt c.index_mut.ensures.value in
    let is = c.truncate-else-rest-eq0.ensures.items ∙ take-set_at items q (q + 1) c.cut.new.self refl lt ∙ ap (λ k. take q items ++ k ∷ []) c.cut.ensures in
    subst (StartFrom d) (sym is) (cut-starts items c.requires.filled q c.index_mut.result.now at d (c.args.n % 64) starts)

pub returns-else-rest-eq0-clause-front : goal.returns-else-rest-eq0-clause-front
returns-else-rest-eq0-clause-front c =
    let items = c.args.parts.now.items in
    let q = c.args.n / 64 in
    let lt : q < length items = omega (arith, c.if-whole-len.true, c.len.ensures, c.args.parts.now.ok.0) in
    let at : slice_get items q ≡ Some c.index_mut.result.now = slice_get_read items (length items) q c.index_mut.result.now refl lt c.index_mut.ensures.value in
    let is = c.truncate-else-rest-eq0.ensures.items ∙ take-set_at items q (q + 1) c.cut.new.self refl lt ∙ ap (λ k. take q items ++ k ∷ []) c.cut.ensures in
    let room = room_in_chunk items c.requires.filled c.args.n q (c.args.n % 64) (in_chunks c.args.n) c.index_mut.result.now at (omega (arith, below_64 c.args.n)) c.requires.within in
    ap entries_of is ∙ entries-end (take q items) (front (c.args.n % 64) c.index_mut.result.now)
    ∙ sym (front_to items c.requires.filled c.args.n q (c.args.n % 64) (in_chunks c.args.n) c.index_mut.result.now at room)

pub returns-else-whole-len-clause-front : goal.returns-else-whole-len-clause-front
returns-else-whole-len-clause-front c =
    let items = c.args.parts.now.items in
    sym (take_all c.args.n (entries_of items) (no_more items c.requires.filled c.args.n (omega (arith, c.if-whole-len.false, c.len.ensures, c.args.parts.now.ok.0))))
